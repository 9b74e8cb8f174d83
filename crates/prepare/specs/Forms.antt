-- What items are, behind their attributes and visibilities, and what follows them (The Rust Reference, "Items", "Modules").
use Rattle.std.specs.Prelude.{ℕ, List, [], ◌∷◌, map, codes, Bool, cond, is_some, Option, Some, None}
use Rattle.std.specs.Borrow.{Bor}
use Rattle.tokens.specs.declared.token.TokenTree.{TokenTree}
use Rattle.tokens.specs.declared.token.Token.{Token}
use Rattle.tokens.specs.Trees.{Tree, token, group, tree_view}
use Rattle.written_types.specs.declared.written.Ident.{Ident}
use Rattle.words.specs.Words.{Word, ident_of, is_among, word_of}
use Rattle.words.specs.Words as words
use Rattle.prepare.specs.declared.form.Form as program
use Rattle.prepare.specs.declared.form.Form.TheVariants as forms
use Rattle.prepare.specs.declared.kind.Kind.{Kind}
use Rattle.prepare.specs.declared.kind.Kind.TheVariants as kinds
use Rattle.prepare.specs.declared.previous.Behind.TheVariants.{Other}
use Rattle.prepare.specs.Trees.{word, is_sign, is_curly, inside}
use Rattle.prepare.specs.Kinds.{kind_of}
use Rattle.prepare.specs.Ends.{after_semicolon, after_line, after_block, semicolon_at, after_call}

-- a declaration, by its name and what follows that, an impl, a module, by what stands in its brackets, a type alias, by its
-- name and what follows its `=`, a `use`, and any other item
pub data Form : Type 0 where
  declares : Ident → List Tree → Form
  implements : Form
  holds : List Tree → Form
  names : Ident → List Tree → Form
  imports : Form
  passes : Form

-- what is found and what follows it
abbrev pub Found : Type 0
Found = Form × List Tree

-- what the program's values are
abbrev pub form_view : program.Form → Form
form_view (forms.Declares name ts) = declares (ident_of name.now) (map tree_view ts.now)
form_view forms.Implements = implements
form_view (forms.Holds ts) = holds (map tree_view ts.now)
form_view (forms.Names name ts) = names (ident_of name.now) (map tree_view ts.now)
form_view forms.Imports = imports
form_view forms.Passes = passes

abbrev pub found_view : program.Form × Bor (List TokenTree) → Found
found_view p = (form_view p.0, map tree_view p.1.now)

-- ---- kinds

abbrev pub first_word : List Tree → Option (List ℕ)
first_word [] = None
first_word (t ∷ ts) = word t

abbrev pub kind_by : Option (List ℕ) → Option (List ℕ) → Kind
kind_by None next = kinds.Call
kind_by (Some first) next = kind_of first next

abbrev pub kind_at : List Tree → Kind
kind_at [] = kinds.Call
kind_at (t ∷ ts) = kind_by (word t) (first_word ts)

-- ---- forms

abbrev pub ending : Form → Option (List Tree) → Option Found
ending form None = None
ending form (Some rest) = Some (form, rest)

-- a keyword of editions after that of 2015, in which it is a name
abbrev pub is_later_keyword : List ℕ → Bool
is_later_keyword text = is_among text (codes "async" ∷ codes "await" ∷ codes "dyn" ∷ codes "try" ∷ [])

-- the name that a tree is in one of the editions
abbrev pub ident_by : Word → Token → Option Ident
ident_by (words.name x) t = Some (ident_of t)
ident_by (words.keyword k x) t = cond (is_later_keyword t.text) (Some (ident_of t)) None
ident_by _ t = None

abbrev pub ident : Tree → Option Ident
ident (token t) = ident_by (word_of (token t)) t
ident (group b ts s) = None

-- keyword name to-block
abbrev pub named_at : Ident → List Tree → Option Found
named_at name ts = ending (declares name ts) (after_block Other 0 ts)

abbrev pub named_or_none : Option Ident → List Tree → Option Found
named_or_none None ts = None
named_or_none (Some name) ts = named_at name ts

abbrev pub declared_at : List Tree → Option Found
declared_at [] = None
declared_at (t ∷ ts) = named_or_none (ident t) ts

abbrev pub declaration_at : List Tree → Option Found
declaration_at [] = None
declaration_at (keyword ∷ ts) = declared_at ts

-- keyword name (curly-group | ";")
abbrev pub held_at : List Tree → Option Found
held_at [] = None
held_at (t ∷ ts) = cond (is_curly t) (Some (holds (inside t), ts)) (ending passes (semicolon_at (t ∷ ts)))

abbrev pub module_at : List Tree → Option Found
module_at [] = None
module_at (keyword ∷ []) = None
module_at (keyword ∷ name ∷ ts) = cond (is_some (word name)) (held_at ts) None

-- keyword name "=" any* ";"; what has anything else in front of the `=` passes
abbrev pub alias_by : Option Ident → List Tree → Form
alias_by None ts = passes
alias_by (Some name) ts = names name ts

abbrev pub alias_of : List Tree → Form
alias_of [] = passes
alias_of (keyword ∷ []) = passes
alias_of (keyword ∷ name ∷ []) = passes
alias_of (keyword ∷ name ∷ equals ∷ ts) = cond (is_sign (codes "=") equals) (alias_by (ident name) ts) passes

abbrev pub alias_at : List Tree → Option Found
alias_at ts = ending (alias_of ts) (after_line ts)

abbrev pub form_of : Kind → List Tree → Option Found
form_of kinds.Declaration ts = declaration_at ts
form_of kinds.Impl ts = ending implements (after_block Other 0 ts)
form_of kinds.Use ts = ending imports (after_semicolon ts)
form_of kinds.Module ts = module_at ts
form_of kinds.Alias ts = alias_at ts
form_of kinds.Line ts = ending passes (after_line ts)
form_of kinds.Block ts = ending passes (after_block Other 0 ts)
form_of kinds.Call ts = ending passes (after_call ts)

unfoldable pub form_at : List Tree → Option Found
form_at ts = form_of (kind_at ts) ts

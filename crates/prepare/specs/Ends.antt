-- Where items end (The Rust Reference, "Items", "Macro invocation"): what follows them, where they end.
use Rattle.std.specs.Prelude.{ℕ, suc, ◌-◌, List, [], ◌∷◌, codes, Bool, true, false, not, cond, ◌&&◌, ◌||◌, ◌==◌, is_some, Option, Some, None}
use Rattle.tokens.specs.Trees.{Tree}
use Rattle.words.specs.Words.{word_of}
use Rattle.words.specs.Reading.{as_name}
use Rattle.prepare.specs.declared.previous.Behind.{Behind}
use Rattle.prepare.specs.declared.previous.Behind.TheVariants as behinds
use Rattle.prepare.specs.Trees.{word, is_word, is_sign, is_curly, is_group, is_path_part}

-- the keyword of a declaration or of a module, which no other item has outside of its brackets
abbrev pub is_declaration_word : Tree → Bool
is_declaration_word t = is_word (codes "struct") t || (is_word (codes "enum") t || is_word (codes "mod") t)

-- what a tree stands behind is a `-`, a name, and a `!` behind a name
abbrev pub is_minus : Behind → Bool
is_minus behinds.Minus = true
is_minus _ = false

abbrev pub is_name : Behind → Bool
is_name behinds.Name = true
is_name _ = false

abbrev pub is_call : Behind → Bool
is_call behinds.Call = true
is_call _ = false

-- what follows the first `;`, where no declaration and no module stands before it
abbrev pub after_semicolon : List Tree → Option (List Tree)
after_semicolon [] = None
after_semicolon (t ∷ ts) = cond (is_declaration_word t) None (cond (is_sign (codes ";") t) (Some ts) (after_semicolon ts))

-- what may follow the name of an item that goes to a semicolon
abbrev pub is_behind_name : Tree → Bool
is_behind_name t = is_sign (codes ":") t || is_sign (codes "=") t || is_sign (codes "<") t || is_sign (codes ";") t || is_word (codes "where") t

abbrev pub begins_with_name : List Tree → Bool
begins_with_name [] = false
begins_with_name (t ∷ []) = false
begins_with_name (t ∷ u ∷ ts) = is_some (word t) && is_behind_name u

-- what follows a `mut` at the front
abbrev pub after_mut : List Tree → List Tree
after_mut [] = []
after_mut (t ∷ ts) = cond (is_word (codes "mut") t) ts (t ∷ ts)

-- what follows keyword "mut"? name any* ";", where a word behind the name would make it another item, or none
abbrev pub after_line : List Tree → Option (List Tree)
after_line [] = None
after_line (keyword ∷ ts) = cond (begins_with_name (after_mut ts)) (after_semicolon ts) None

-- what the next tree stands behind: the tree, which itself stands behind that
abbrev pub behind : Behind → Tree → Behind
behind was t =
    cond (is_sign (codes "-") t) behinds.Minus
    (cond (is_some (as_name (word_of t))) behinds.Name
    (cond (is_sign (codes "!") t && is_name was) behinds.Call behinds.Other))

-- an item that goes to a block ends with the tree, inside of as many `<`, where the tree is no argument of a macro
abbrev pub is_end : Behind → ℕ → Tree → Bool
is_end was opened t = is_sign (codes ";") t || ((opened == 0) && (is_curly t && not (is_call was)))

-- how many `<` are open after the tree; the `>` of `->` closes none
abbrev pub angles : Behind → ℕ → Tree → ℕ
angles was opened t = cond (is_sign (codes "<") t) (suc opened) (cond (is_sign (codes ">") t && not (is_minus was)) (opened - 1) opened)

-- what follows the first `;`, or the first group in curly brackets outside of `<` and `>`, where no declaration and no module
-- stands before it
unfoldable pub after_block : Behind → ℕ → List Tree → Option (List Tree)
after_block was opened [] = None
after_block was opened (t ∷ ts) = cond (is_declaration_word t) None (cond (is_end was opened t) (Some ts) (after_block (behind was t) (angles was opened t) ts))

-- what follows the words and `::` at the front
abbrev pub after_path : List Tree → List Tree
after_path [] = []
after_path (t ∷ ts) = cond (is_path_part t) (after_path ts) (t ∷ ts)

-- what follows a word at the front
abbrev pub after_name : List Tree → List Tree
after_name [] = []
after_name (t ∷ ts) = cond (is_some (word t)) ts (t ∷ ts)

-- what follows a `;` at the front
abbrev pub semicolon_at : List Tree → Option (List Tree)
semicolon_at [] = None
semicolon_at (t ∷ ts) = cond (is_sign (codes ";") t) (Some ts) None

-- what follows curly-group | (round-group | square-group) ";"
abbrev pub after_group : List Tree → Option (List Tree)
after_group [] = None
after_group (t ∷ ts) = cond (is_curly t) (Some ts) (cond (is_group t) (semicolon_at ts) None)

-- what follows "!" word? and such a group
abbrev pub behind_path : List Tree → Option (List Tree)
behind_path [] = None
behind_path (t ∷ ts) = cond (is_sign (codes "!") t) (after_group (after_name ts)) None

-- what follows the call of a macro
abbrev pub after_call : List Tree → Option (List Tree)
after_call [] = None
after_call (t ∷ ts) = cond (is_path_part t) (behind_path (after_path ts)) None

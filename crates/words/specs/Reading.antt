-- Reading words from left to right.
use Rattle.std.specs.Prelude.{◌≡◌, List, [], ◌∷◌, Option, Some, None, Result, Ok, Err, Bool, true, false, cond}
use Rattle.texts.specs.declared.span.Span.{Span}
use Rattle.tokens.specs.declared.token.Token.{Token}
use Rattle.tokens.specs.declared.token.Bracket.{Bracket}
use Rattle.tokens.specs.declared.token.Bracket.TheVariants.{Round, Square, Curly}
use Rattle.tokens.specs.Trees.{Trees, trees_view}
use Rattle.written_types.specs.declared.written.Ident.{Ident}
use Rattle.words.specs.declared.vocabulary.Keyword.{Keyword}
use Rattle.words.specs.declared.vocabulary.Keyword.TheVariants as keywords
use Rattle.words.specs.declared.vocabulary.Sign.{Sign}
use Rattle.words.specs.declared.vocabulary.Sign.TheVariants as signs
use Rattle.words.specs.declared.tree_word.Word as program
use Rattle.words.specs.declared.tree_word.Word.TheVariants as words
use Rattle.words.specs.declared.stopping.Stop.{Stop}
use Rattle.words.specs.declared.stopping.Stop.TheVariants as stop
use Rattle.words.specs.Words.{Word, name, underscore, keyword, sign, lifetime, literal, doc, group, ident_of, lifetime_of}

-- why nothing can be read: what stands there nests too deep, from a place on, or is not of the grammar
pub data Fault : Type 0 where
  deep : Span → Fault
  wrong : Fault

-- what is read and what follows it
abbrev pub Read : Type 0 → Type 0
Read A = Result (A × List Word) Fault

infixl 10 ◌>>=◌
abbrev pub ◌>>=◌ : {A B : Type 0} → Result A Fault → (A → Result B Fault) → Result B Fault
(Ok x) >>= f = f x
(Err e) >>= f = Err e

-- a function stopped where nothing can be read, unless memory ran out
abbrev pub Fails : {Y : Type 0} → Stop → Result Y Fault → Type 0
Fails (stop.Unexpected at) read = read ≡ Err wrong
Fails stop.Ended read = read ≡ Err wrong
Fails (stop.Deep at) read = read ≡ Err (deep at)
Fails stop.Memory read = Unit {0}

-- what a function returned, seen by view, is what can be read
abbrev pub Gives : {X Y : Type 0} → (X → Y) → Result X Stop → Result Y Fault → Type 0
Gives view (Ok x) read = read ≡ Ok (view x)
Gives view (Err e) read = Fails e read

-- the stop is at a word that is not of the grammar, or where the words end
abbrev pub IsWrong : Stop → Type 0
IsWrong (stop.Unexpected at) = Unit {0}
IsWrong stop.Ended = Unit {0}
IsWrong (stop.Deep at) = ⊥
IsWrong stop.Memory = ⊥

-- two stops of one kind, and of one place where they tell of depth
abbrev pub StopsAlike : Stop → Stop → Type 0
StopsAlike (stop.Unexpected at) s = IsWrong s
StopsAlike stop.Ended s = IsWrong s
StopsAlike (stop.Deep at) s = s ≡ stop.Deep at
StopsAlike stop.Memory s = s ≡ stop.Memory

-- what the program's words are
abbrev pub word_view : program.Word → Word
word_view (words.Name t) = name (ident_of t.now)
word_view (words.Underscore t) = underscore (ident_of t.now)
word_view (words.Keyword k t) = keyword k (ident_of t.now)
word_view (words.Sign k s) = sign k s
word_view (words.Lifetime t) = lifetime (lifetime_of t.now)
word_view (words.Literal t) = literal t.now
word_view (words.Doc t) = doc t.now
word_view (words.Group g) = group g.now.bracket (trees_view g.now.trees) g.now.span

abbrev pub same_sign : Sign → Sign → Bool
same_sign signs.Colons signs.Colons = true
same_sign signs.Exclamation signs.Exclamation = true
same_sign signs.Hash signs.Hash = true
same_sign signs.Dollar signs.Dollar = true
same_sign signs.Percent signs.Percent = true
same_sign signs.Ampersand signs.Ampersand = true
same_sign signs.Star signs.Star = true
same_sign signs.Plus signs.Plus = true
same_sign signs.Comma signs.Comma = true
same_sign signs.Minus signs.Minus = true
same_sign signs.Dot signs.Dot = true
same_sign signs.Slash signs.Slash = true
same_sign signs.Colon signs.Colon = true
same_sign signs.Semicolon signs.Semicolon = true
same_sign signs.Less signs.Less = true
same_sign signs.Equals signs.Equals = true
same_sign signs.Greater signs.Greater = true
same_sign signs.Question signs.Question = true
same_sign signs.At signs.At = true
same_sign signs.Caret signs.Caret = true
same_sign signs.Bar signs.Bar = true
same_sign signs.Tilde signs.Tilde = true
same_sign signs.Other signs.Other = true
same_sign _ _ = false

abbrev pub same_keyword : Keyword → Keyword → Bool
same_keyword keywords.Pub keywords.Pub = true
same_keyword keywords.Struct keywords.Struct = true
same_keyword keywords.Enum keywords.Enum = true
same_keyword keywords.Use keywords.Use = true
same_keyword keywords.Mut keywords.Mut = true
same_keyword keywords.Dyn keywords.Dyn = true
same_keyword keywords.In keywords.In = true
same_keyword keywords.Crate keywords.Crate = true
same_keyword keywords.SelfValue keywords.SelfValue = true
same_keyword keywords.Super keywords.Super = true
same_keyword keywords.SelfType keywords.SelfType = true
same_keyword keywords.True keywords.True = true
same_keyword keywords.False keywords.False = true
same_keyword keywords.Const keywords.Const = true
same_keyword keywords.Where keywords.Where = true
same_keyword keywords.Other keywords.Other = true
same_keyword _ _ = false

abbrev pub same_bracket : Bracket → Bracket → Bool
same_bracket Round Round = true
same_bracket Square Square = true
same_bracket Curly Curly = true
same_bracket _ _ = false

-- the keywords that a path may have in place of names
abbrev pub is_path_keyword : Keyword → Bool
is_path_keyword keywords.Crate = true
is_path_keyword keywords.SelfValue = true
is_path_keyword keywords.Super = true
is_path_keyword keywords.SelfType = true
is_path_keyword _ = false

-- the words of each kind
abbrev pub as_name : Word → Option Ident
as_name (name x) = Some x
as_name _ = None

abbrev pub as_path_word : Word → Option Ident
as_path_word (name x) = Some x
as_path_word (underscore x) = Some x
as_path_word (keyword k x) = cond (is_path_keyword k) (Some x) None
as_path_word _ = None

abbrev pub as_keyword : Keyword → Word → Option Span
as_keyword k (keyword j x) = cond (same_keyword k j) (Some x.span) None
as_keyword k _ = None

abbrev pub as_sign : Sign → Word → Option Span
as_sign k (sign j s) = cond (same_sign k j) (Some s) None
as_sign k _ = None

abbrev pub as_lifetime : Word → Option Ident
as_lifetime (lifetime x) = Some x
as_lifetime _ = None

abbrev pub as_literal : Word → Option Token
as_literal (literal t) = Some t
as_literal _ = None

abbrev pub as_group : Bracket → Word → Option (Trees × Span)
as_group b (group a ts s) = cond (same_bracket b a) (Some (ts, s)) None
as_group b _ = None

-- the first word, where it is of the kind, and what follows it
abbrev pub taken : {A : Type 0} → Option A → List Word → Read A
taken None ws = Err wrong
taken (Some x) ws = Ok (x, ws)

abbrev pub first_as : {A : Type 0} → (Word → Option A) → List Word → Read A
first_as kind [] = Err wrong
first_as kind (w ∷ ws) = taken (kind w) ws

abbrev pub name_at : List Word → Read Ident
name_at = first_as as_name

abbrev pub path_word_at : List Word → Read Ident
path_word_at = first_as as_path_word

abbrev pub keyword_at : Keyword → List Word → Read Span
keyword_at k = first_as (as_keyword k)

abbrev pub sign_at : Sign → List Word → Read Span
sign_at k = first_as (as_sign k)

abbrev pub lifetime_at : List Word → Read Ident
lifetime_at = first_as as_lifetime

abbrev pub literal_at : List Word → Read Token
literal_at = first_as as_literal

abbrev pub group_at : Bracket → List Word → Read (Trees × Span)
group_at b = first_as (as_group b)

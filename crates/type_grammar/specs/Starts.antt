-- How types begin, and what follows them.
use Rattle.std.specs.Prelude.{◌≡◌, List, [], ◌∷◌, Bool, true, false}
use Rattle.texts.specs.declared.span.Span.{Span}
use Rattle.tokens.specs.declared.token.Bracket.{Bracket}
use Rattle.tokens.specs.declared.token.Bracket.TheVariants.{Round, Square, Curly}
use Rattle.tokens.specs.Trees.{Trees}
use Rattle.written_types.specs.Written.{WrittenPath, path_of}
use Rattle.words.specs.declared.vocabulary.Keyword.{Keyword}
use Rattle.words.specs.declared.vocabulary.Keyword.TheVariants as keywords
use Rattle.words.specs.declared.vocabulary.Sign.{Sign}
use Rattle.words.specs.declared.vocabulary.Sign.TheVariants as signs
use Rattle.words.specs.Words.{Word, name, underscore, keyword, sign, lifetime, literal, doc, group}

-- a type is a path, a reference, a trait object or what stands in brackets; its first word tells which
pub data TypeStart : Type 0 where
  starts_path : TypeStart
  starts_reference : TypeStart
  starts_object : Span → TypeStart
  starts_round : Trees → Span → TypeStart
  starts_square : Trees → Span → TypeStart
  starts_no_type : TypeStart

abbrev pub keyword_start : Keyword → Span → TypeStart
keyword_start keywords.Crate s = starts_path
keyword_start keywords.SelfValue s = starts_path
keyword_start keywords.Super s = starts_path
keyword_start keywords.SelfType s = starts_path
keyword_start keywords.Dyn s = starts_object s
keyword_start _ s = starts_no_type

abbrev pub sign_start : Sign → TypeStart
sign_start signs.Colons = starts_path
sign_start signs.Ampersand = starts_reference
sign_start _ = starts_no_type

abbrev pub group_start : Bracket → Trees → Span → TypeStart
group_start Round ts s = starts_round ts s
group_start Square ts s = starts_square ts s
group_start Curly ts s = starts_no_type

abbrev pub type_start : Word → TypeStart
type_start (name x) = starts_path
type_start (underscore x) = starts_path
type_start (keyword k x) = keyword_start k x.span
type_start (sign k s) = sign_start k
type_start (lifetime x) = starts_no_type
type_start (literal t) = starts_no_type
type_start (doc t) = starts_no_type
type_start (group b ts s) = group_start b ts s

abbrev pub is_type_start : TypeStart → Bool
is_type_start starts_path = true
is_type_start starts_reference = true
is_type_start (starts_object s) = true
is_type_start (starts_round ts s) = true
is_type_start (starts_square ts s) = true
is_type_start starts_no_type = false

-- whether a type may begin with the word
abbrev pub begins_type : Word → Bool
begins_type w = is_type_start (type_start w)

-- whether a bound may begin with the word: a lifetime, `?` or a path
abbrev pub begins_path : TypeStart → Bool
begins_path starts_path = true
begins_path _ = false

abbrev pub begins_bound : Word → Bool
begins_bound (lifetime x) = true
begins_bound (sign signs.Question s) = true
begins_bound w = begins_path (type_start w)

-- whether the words may be more of the type that stands before them: arguments, a segment or a bound
abbrev pub sign_goes_on : Sign → Bool
sign_goes_on signs.Less = true
sign_goes_on signs.Colons = true
sign_goes_on signs.Plus = true
sign_goes_on _ = false

abbrev pub goes_on : List Word → Bool
goes_on [] = false
goes_on (sign k s ∷ ws) = sign_goes_on k
goes_on (_ ∷ ws) = false

-- The words are no more of a type that stands before them, as where nothing is left or where `,`, `>`, `:`, `;`, `=` or a group in curly brackets comes.
abbrev pub Stops : List Word → Type 0
Stops ws = goes_on ws ≡ false

-- likewise after a path, which bounds may follow
abbrev pub sign_goes_on_path : Sign → Bool
sign_goes_on_path signs.Less = true
sign_goes_on_path signs.Colons = true
sign_goes_on_path _ = false

abbrev pub path_goes_on : List Word → Bool
path_goes_on [] = false
path_goes_on (sign k s ∷ ws) = sign_goes_on_path k
path_goes_on (_ ∷ ws) = false

abbrev pub StopsPath : List Word → Type 0
StopsPath ws = path_goes_on ws ≡ false

-- the bytes of a path
abbrev pub span_of : WrittenPath → Span
span_of (path_of leading ss s) = s

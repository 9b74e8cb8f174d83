-- Words of items: what a discriminant takes, and from where to where items go (The Rust Reference, "Enumerations").
use Rattle.std.specs.Prelude.{◌-◌, List, [], ◌∷◌, length, get_or, Bool, true, false, cond}
use Rattle.texts.specs.Span.{no_span}
use Rattle.texts.specs.declared.span.Span.{Span}
use Rattle.words.specs.declared.vocabulary.Sign.TheVariants.{Comma}
use Rattle.words.specs.Words.{Word, sign, cover, span_of}

abbrev pub is_comma : Word → Bool
is_comma (sign Comma s) = true
is_comma _ = false

-- what stands before the first comma, and from it on
abbrev pub before_comma : List Word → List Word
before_comma [] = []
before_comma (w ∷ ws) = cond (is_comma w) [] (w ∷ before_comma ws)

abbrev pub from_comma : List Word → List Word
from_comma [] = []
from_comma (w ∷ ws) = cond (is_comma w) (w ∷ ws) (from_comma ws)

-- from the first of the words to the last that stands before the rest
unfoldable pub spanning : List Word → List Word → Span
spanning [] rest = no_span
spanning (w ∷ ws) rest = cover (span_of w) (span_of (get_or (w ∷ ws) (length (w ∷ ws) - length rest - 1) w))

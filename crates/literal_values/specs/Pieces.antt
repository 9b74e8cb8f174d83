-- Texts in quotes, as they are read piece by piece.
use Rattle.std.specs.Prelude.{◌≡◌, ℕ, ◌<◌, List, [], length, chars, Option, Some, None, false, MatchOption}
use Rattle.std.specs.Borrow.{Bor}
use Rattle.std.specs.Str.{IsUtf8}
use Rattle.literal_values.specs.declared.strings.Quoting.{Quoting}
use Rattle.literal_values.specs.declared.strings.Quoting.TheVariants.{Escaped, Raw}
use Rattle.literal_values.specs.declared.strings.Piece.{Piece}
use Rattle.literal_values.specs.declared.strings.Piece.TheVariants.{End, Character, Nothing}
use Rattle.literal_values.specs.Values.{put, unescaped, raw_text}

-- the value of what follows the first quote
abbrev pub quoted : Quoting → List ℕ → Option (List ℕ)
quoted Escaped cs = unescaped false cs
quoted (Raw hashes) cs = raw_text hashes cs

-- what follows, of a text
abbrev pub Follows : Bor (List ℕ) → List ℕ → Type 0
Follows rest text = (length rest.now < length text) × IsUtf8 rest.now

-- the text has the value that its first piece and what follows tell
abbrev pub Begins : Quoting → Piece → List ℕ → Option (List ℕ) → Type 0
Begins quoting End text found = found ≡ Some []
Begins quoting (Character c rest) text found = (found ≡ put c (quoted quoting (chars rest.now))) × Follows rest text
Begins quoting (Nothing rest) text found = (found ≡ quoted quoting (chars rest.now)) × Follows rest text

abbrev pub BeginsWith : Quoting → Option Piece → List ℕ → Option (List ℕ) → Type 0
BeginsWith quoting piece text found = MatchOption piece (found ≡ None) (λ p. Begins quoting p text found)

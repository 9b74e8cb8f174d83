-- The forms of the words after the program's name.
use Rattle.std.specs.Prelude.{◌≡◌, ◌<◌, ◌≤◌, ℕ, List, [], ◌∷◌, Option, Some, None, codes}
use Rattle.std.specs.Fmt.{decimal}
use Rattle.samples.specs.Samples.{most_declarations}
use Rattle.schema_gen.specs.declared.derivation.Derivation.{Derivation}
use Rattle.schema_gen.specs.declared.derivation.Derivation.TheVariants.{Plain, Configured, Sample}

-- what words ask for: the document of a source, by the configuration of the file at a path where
-- they name one, or how large the document of a sample of so many declarations is
pub data Asked : Type 0 where
  derive : Option (List ℕ) → Asked
  sample : ℕ → Asked

-- `derive`, or where a path is named `derive --config PATH`
unfoldable pub IsDerive : List (List ℕ) → Option (List ℕ) → Type 0
IsDerive words None = words ≡ codes "derive" ∷ []
IsDerive words (Some path) = words ≡ codes "derive" ∷ codes "--config" ∷ path ∷ []

-- `sample N`, where N is in decimal without a leading zero, and from 1 to 1000
unfoldable pub IsSample : List (List ℕ) → ℕ → Type 0
IsSample words n =
    (words ≡ codes "sample" ∷ decimal n ∷ []) × (0 < n) × (n ≤ most_declarations)

abbrev pub AskFor : List (List ℕ) → Asked → Type 0
AskFor words (derive path) = IsDerive words path
AskFor words (sample n) = IsSample words n

-- the words are of one of the forms
abbrev pub HaveForm : List (List ℕ) → Type 0
HaveForm words = (asked : Asked) × AskFor words asked

-- what the program's value of a request asks for
abbrev pub asked_of : Derivation → Asked
asked_of Plain = derive None
asked_of (Configured path) = derive (Some path.now)
asked_of (Sample size) = sample size.many

-- What a run of `sample N` writes.
use Rattle.std.specs.Prelude.{◌≡◌, ◌++◌, ℕ, List, length, codes}
use Rattle.std.specs.Fmt.{decimal}
use Rattle.configuration.specs.Configuration.{empty_configuration}
use Rattle.samples.specs.Samples.{sample_text}
use Rattle.schema_gen.specs.Derived.{IsDocumentOf}

-- `declarations N components M bytes B` and a new line
abbrev pub sample_line : (declarations components bytes : ℕ) → List ℕ
sample_line declarations components bytes =
    codes "declarations " ++ (decimal declarations ++ (codes " components "
    ++ (decimal components ++ (codes " bytes " ++ (decimal bytes ++ codes "\n")))))

-- The line tells how many declarations a sample has, how many components its document has under the
-- empty configuration, and how many bytes the document has with its new line.
pub record IsSampleLine (many : ℕ) (line : List ℕ) : Type 0 where
  pub text : List ℕ
  pub derived : IsDocumentOf empty_configuration (sample_text many) text
  pub line_is : line ≡ sample_line many (length derived.components) (length text)

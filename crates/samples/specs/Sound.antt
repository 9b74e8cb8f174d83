-- What is known of samples: they are read, and nothing in them is at fault or beyond a bound.
use Rattle.std.specs.Prelude.{◌≡◌, ◌≤◌, ℕ, List, Some, length}
use Rattle.std.specs.Str.{IsUtf8}
use Rattle.texts.specs.declared.span.Span.{Span}
use Rattle.syntax.specs.Items.{DeclaredItem}
use Rattle.syntax.specs.Source.{Reads, NestsTooDeep}
use Rattle.configuration.specs.Configuration.{empty_configuration}
use Rattle.shapes.specs.Declarations.{DeclarationOf}
use Rattle.derive_decl.specs.Whole.{resolved_declarations}
use Rattle.compose.specs.Bounds.{AreBounded}
use Rattle.compose.specs.Faults.{AreClear}
use Rattle.samples.specs.Samples.{sample_text}

-- The sample of so many declarations is UTF-8 and no longer than a source may be, 1 MiB. It is read as declarations, and its
-- brackets and types nest nowhere too deep. Where nothing is configured, no condition of a refusal holds of the declarations,
-- and nothing of what they are resolved to is beyond a bound.
pub record IsSoundSample (many : ℕ) : Type 0 where
  pub utf8 : IsUtf8 (sample_text many)
  pub short : length (sample_text many) ≤ 1048576
  pub declarations : List DeclaredItem
  pub read : Reads (sample_text many) declarations
  pub shallow : (span : Span) → ¬ NestsTooDeep (sample_text many) span
  pub clear : AreClear empty_configuration declarations
  pub bounded : (resolved : List DeclarationOf) → resolved_declarations empty_configuration declarations ≡ Some resolved → AreBounded empty_configuration resolved

-- Why a source is refused.
use Rattle.std.specs.Prelude.{◌≡◌, ℕ, List, Some}
use Rattle.diag.specs.declared.error.DeriveError.{DeriveError}
use Rattle.texts.specs.declared.span.Span.{Span}
use Rattle.syntax.specs.Items.{DeclaredItem}
use Rattle.syntax.specs.Source.{Reads, NestsTooDeep}
use Rattle.configuration.specs.Configuration.{Configuration}
use Rattle.shapes.specs.Declarations.{DeclarationOf}
use Rattle.derive_decl.specs.Whole.{resolved_declarations}
use Rattle.compose.specs.Bounds.{AreBounded}
use Rattle.compose.specs.Faults.{IsRefused, AreClear}
use Rattle.reporting.specs.Bytes.{IsText, IsRefusedBytes}

-- the error refuses the bytes: they are too many, or else no UTF-8, or else the source that they
-- are is refused
abbrev pub IsRefusedSource : Configuration → List ℕ → DeriveError → Type 0
IsRefusedSource c bytes e = IsRefusedBytes (IsRefused c bytes) bytes e

-- No condition of a refusal holds of the bytes: they are a text that has a reading, and nothing in
-- it is at fault or beyond a bound of the configuration.
pub record IsSound (c : Configuration) (bytes : List ℕ) : Type 0 where
  pub text : IsText bytes
  pub declarations : List DeclaredItem
  pub read : Reads bytes declarations
  pub shallow : (span : Span) → ¬ NestsTooDeep bytes span
  pub clear : AreClear c declarations
  pub bounded : (resolved : List DeclarationOf)
      → resolved_declarations c declarations ≡ Some resolved
      → AreBounded c resolved

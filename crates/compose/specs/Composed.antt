-- What declarations are resolved to, and their instances within the bounds.
use Rattle.std.specs.Prelude.{◌≡◌, ℕ, List}
use Rattle.texts.specs.declared.span.Span.{Span}
use Rattle.syntax.specs.Items.{DeclaredItem}
use Rattle.syntax.specs.Source.{Reads, NestsTooDeep}
use Rattle.configuration.specs.Configuration.{Configuration}
use Rattle.shapes.specs.Declarations.{DeclarationOf}
use Rattle.compose.specs.Bounds.{AreBounded, collects_all}
use Rattle.compose.specs.Settled.{IsSettled}
use Rattle.compose.specs.Within.{AreWithin}
use Rattle.compose.specs.declared.within.Bounded.{Bounded}

-- The declarations are resolved to these, and no condition of a refusal holds; these are the instances, within the bounds of the configuration.
pub record AreComposedOf (c : Configuration) (ds : List DeclaredItem) (ss : List DeclarationOf) (b : Bounded) : Type 0 where
  pub settled : IsSettled c ds ss
  pub bounded : AreBounded c ss
  pub all : b.all ≡ collects_all c.collect
  pub within : AreWithin ss b

-- The source is read, no deeper than it may be, as declarations of which the same holds.
pub record IsComposedOf (c : Configuration) (source : List ℕ) (ss : List DeclarationOf) (b : Bounded) : Type 0 where
  pub declarations : List DeclaredItem
  pub read : Reads source declarations
  pub shallow : (span : Span) → ¬ NestsTooDeep source span
  pub composed : AreComposedOf c declarations ss b

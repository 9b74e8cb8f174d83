-- Why declarations have no components: an attribute that nothing is derived from, a name that two declarations have, a declaration at fault, or what is beyond a bound.
use Rattle.std.specs.Prelude.{◌≡◌, ◌⊎◌, ℕ, List, Some}
use Rattle.diag.specs.Refusal.{RefusesNone}
use Rattle.diag.specs.declared.error.DeriveError.{DeriveError}
use Rattle.texts.specs.declared.span.Span.{Span}
use Rattle.schema_core.specs.Document.{Entry}
use Rattle.syntax.specs.Items.{DeclaredItem}
use Rattle.syntax.specs.Source.{Reads, IsUnreadable, IsTooDeep, NestsTooDeep}
use Rattle.scopes.specs.Names.{declared_idents, IsGivenTwice}
use Rattle.configuration.specs.Configuration.{Configuration}
use Rattle.shapes.specs.Declarations.{DeclarationOf, AreApartBodies}
use Rattle.derive_decl.specs.Faults.{AreUnderivable, AreDerivable, AreFaultyItems}
use Rattle.derive_decl.specs.Whole.{resolved_declarations}
use Rattle.closing.specs.Described.{AreComponents}
use Rattle.compose.specs.Bounds.{AreBounded, IsUnbounded, collects_all}

-- ---- the answers

-- the error refuses a name that two declarations have, or a declaration that is at fault
abbrev pub AreFaultyDeclarations : Configuration → List DeclaredItem → DeriveError → Type 0
AreFaultyDeclarations c ds e = IsGivenTwice (declared_idents ds) e ⊎ AreFaultyItems c ds e

-- the error refuses the declarations for an attribute that nothing is derived from, or else for a fault
abbrev pub AreAtFault : Configuration → List DeclaredItem → DeriveError → Type 0
AreAtFault c ds e = AreUnderivable ds e ⊎ (AreDerivable ds × AreFaultyDeclarations c ds e)

-- Something is derived from each attribute of the declarations, and there is no fault, where names become and stand for what the configuration says.
pub record AreClear (c : Configuration) (ds : List DeclaredItem) : Type 0 where
  pub derivable : AreDerivable ds
  pub faultless : RefusesNone (AreFaultyDeclarations c ds)

-- the error refuses declarations that are clear: their instances are beyond a bound
abbrev pub IsBeyond : Configuration → List DeclaredItem → DeriveError → Type 0
IsBeyond c ds e = AreClear c ds × ((ss : List DeclarationOf) × (resolved_declarations c ds ≡ Some ss) × IsUnbounded c (declared_idents ds) ss e)

-- the error refuses declarations that are at fault or beyond a bound
abbrev pub AreRefused : Configuration → List DeclaredItem → DeriveError → Type 0
AreRefused c ds e = AreAtFault c ds e ⊎ IsBeyond c ds e

-- the error refuses a source that is read and nests no deeper than it may, whose declarations are at fault or beyond a bound
abbrev pub IsFaultySource : Configuration → List ℕ → DeriveError → Type 0
IsFaultySource c source e = (ds : List DeclaredItem) × Reads source ds × ((span : Span) → ¬ (NestsTooDeep source span)) × AreRefused c ds e

-- the error refuses the source: it nests too deep, or it has no reading, or else its declarations are at fault, or else beyond a bound
abbrev pub IsRefused : Configuration → List ℕ → DeriveError → Type 0
IsRefused c source e = IsTooDeep source e ⊎ IsUnreadable source e ⊎ IsFaultySource c source e

-- The components are those of the instances that the declarations reach, and no condition of a refusal holds.
pub record AreDerived (c : Configuration) (ds : List DeclaredItem) (components : List Entry) : Type 0 where
  pub clear : AreClear c ds
  pub resolved : List DeclarationOf
  pub resolves : resolved_declarations c ds ≡ Some resolved
  pub bounded : AreBounded c resolved
  pub apart : AreApartBodies resolved
  pub components_are : AreComponents resolved (collects_all c.collect) components

-- The source is read, no deeper than it may be, as declarations whose components these are.
pub record IsDerived (c : Configuration) (source : List ℕ) (components : List Entry) : Type 0 where
  pub declarations : List DeclaredItem
  pub read : Reads source declarations
  pub shallow : (span : Span) → ¬ NestsTooDeep source span
  pub derived : AreDerived c declarations components

-- The law: a configuration and a source have one list of components.
abbrev pub ComponentsAreOne : Type 0
ComponentsAreOne = (c : Configuration) (source : List ℕ) (es fs : List Entry) → IsDerived c source es → IsDerived c source fs → es ≡ fs

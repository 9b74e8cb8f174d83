-- What is composed of declarations: their components, and what the document of these says.
use Rattle.std.proofs.Common.{◌≡◌, ◌∙◌, ℕ, List, map, ap, sym, subst}
use Rattle.schema_core.specs.declared.alternatives.Alternatives.{Alternatives}
use Rattle.schema_core.specs.Document.{Entry, document_by}
use Rattle.syntax.specs.Items.{DeclaredItem}
use Rattle.configuration.specs.Configuration.{Configuration}
use Rattle.shapes.specs.Declarations.{DeclarationOf}
use Rattle.shapes.specs.Views.{declaration_view}
use Rattle.shapes.specs.declared.declaration.Declaration.{Declaration}
use Rattle.derive_decl.specs.Law.{DeclarationsAreApart}
use Rattle.closing.specs.Described.{AreComponents, ComponentsDescribe, Describes}
use Rattle.closing.specs.Made.{EntriesAre, entries_at}
use Rattle.compose.specs.Bounds.{collects_all}
use Rattle.compose.specs.Composed.{AreComposedOf, IsComposedOf}
use Rattle.compose.specs.Faults.{AreDerived, IsDerived}
use Rattle.compose.specs.Within.{AreWithin}
use Rattle.compose.specs.declared.within.Bounded.{Bounded}

-- the entries of the instances that are components
abbrev pub entries_within : List DeclarationOf → Bounded → List Entry
entries_within ss b = entries_at ss b.reach b.shown.components

-- they are the components
pub components_are : EntriesAre → (ss : List DeclarationOf) (b : Bounded) → AreWithin ss b → (es : List Entry) → es ≡ entries_within ss b → AreComponents ss b.all es
components_are entries ss b within es same =
    let are = (entries ss b.reach b.shown.components within.instances within.differ within.shown.once within.shown.inside).0 in
    subst (AreComponents ss b.all) (sym same) (record {
      held = λ t k. are.held t (within.shown.components.whole t k);
      only = λ name f. let o = are.only name f in (o.0, within.shown.components.are o.0 o.1, o.2);
      order = are.order;
    })

-- of declarations that are resolved by the configuration
pub composed_components : EntriesAre → {c : Configuration} {ds : List DeclaredItem} {ss : List DeclarationOf} {b : Bounded} → AreComposedOf c ds ss b → (es : List Entry) → es ≡ entries_within ss b → AreComponents ss (collects_all c.collect) es
composed_components entries {ss = ss} {b = b} of es same = subst (λ all. AreComponents ss all es) of.all (components_are entries ss b of.within es same)

-- what is known of them
abbrev pub derived_of : {c : Configuration} {ds : List DeclaredItem} {ss : List DeclarationOf} {b : Bounded} {es : List Entry} → DeclarationsAreApart → AreComposedOf c ds ss b → AreComponents ss (collects_all c.collect) es → AreDerived c ds es
derived_of {c = c} {ds = ds} {ss = ss} apart of components = record {
  clear = of.settled.clear;
  resolved = ss;
  resolves = of.settled.resolves;
  bounded = of.bounded;
  apart = apart c ds ss of.settled.resolves;
  components_are = components;
}

-- and where the declarations are read of a source
abbrev pub read_of : {c : Configuration} {source : List ℕ} {ss : List DeclarationOf} {b : Bounded} {es : List Entry} → DeclarationsAreApart → IsComposedOf c source ss b → AreComponents ss (collects_all c.collect) es → IsDerived c source es
read_of apart of components = record {
  declarations = of.declarations;
  read = of.read;
  shallow = of.shallow;
  derived = derived_of apart of.composed components;
}

-- their document describes what the declarations are resolved to
pub describe : ComponentsDescribe → DeclarationsAreApart → {c : Configuration} {ds : List DeclaredItem} {ss : List DeclarationOf} {b : Bounded} {es : List Entry} → AreComposedOf c ds ss b → AreComponents ss (collects_all c.collect) es
    → (by : Alternatives) → Describes ss (collects_all c.collect) (document_by by es)
describe law apart {c = c} {ds = ds} {ss = ss} {es = es} of components by = law ss (collects_all c.collect) es (apart c ds ss of.settled.resolves) of.bounded.differ of.bounded.shallow components by

-- entries that are made of a slice of the declarations
pub of_slice : (b : Bounded) (es : List Entry) (slice resolved : List Declaration) → slice ≡ resolved → es ≡ entries_within (map declaration_view slice) b → es ≡ entries_within (map declaration_view resolved) b
of_slice b es slice resolved same is = is ∙ ap (λ (xs : List Declaration). entries_within (map declaration_view xs) b) same

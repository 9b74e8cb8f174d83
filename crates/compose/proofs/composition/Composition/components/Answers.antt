use Rattle.std.proofs.Common.{◌∙◌, List, map, get_or, ap, sym, subst}
use Rattle.std.proofs.lemmas.List.{get_or-map}
use Rattle.schema_trees.specs.Schema.{leaf}
use Rattle.component.specs.Leaves.{param}
use Rattle.open_types.specs.Open.{unit}
use Rattle.shapes.specs.declared.declaration.Declaration.{Declaration}
use Rattle.shapes.specs.Views.{declaration_view}
use Rattle.terms.specs.InstanceTerms.{instance_term}
use Rattle.instances.specs.Lists.{instance_at}
use Rattle.instances.specs.Names.{NamesDiffer}
use Rattle.compose.proofs.composition.Composition.components.Goals as goal

pub components_of-requires-clause-terms : goal.components_of-requires-clause-terms
components_of-requires-clause-terms c = λ n within marked.
    let ss = map declaration_view c.self.inside.resolved in
    let is = c.self.inside.bounded.reach in
    ap (λ ts. get_or ts n (leaf (param 0))) c.self.invariant.terms ∙ get_or-map (instance_term ss) is n unit (leaf (param 0)) within ∙ ap (λ (xs : List Declaration). instance_term (map declaration_view xs) (instance_at is n)) (sym c.as_slice.ensures)

pub components_of-requires-clause-differ : goal.components_of-requires-clause-differ
components_of-requires-clause-differ c = subst (λ (xs : List Declaration). NamesDiffer (map declaration_view xs)) (sym c.as_slice.ensures) c.self.invariant.differ

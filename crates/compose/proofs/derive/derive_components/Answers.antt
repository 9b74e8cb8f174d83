use Rattle.std.proofs.Common.{List, map, subst}
use Rattle.schema_core.specs.declared.alternatives.Alternatives.TheVariants.{OneOf}
use Rattle.schema_core.specs.Entries.{entry_names}
use Rattle.open_types.specs.Open.{open_view}
use Rattle.shapes.specs.declared.declaration.Declaration.{Declaration}
use Rattle.shapes.specs.Views.{declaration_view}
use Rattle.compose.specs.Types.{AreTypesOf}
use Rattle.compose.proofs.Composed.{composed_components, read_of, describe, of_slice}
use Rattle.compose.proofs.derive.derive_components.Goals as goal

pub returns-clause-describes : goal.returns-clause-describes
returns-clause-describes c =
    let of = c.in_ok-resolved.ensures.composed in
    let components = c.in_ok-derived_within.field-0.components in
    let same = of_slice c.in_ok-resolved.bounded components c.as_slice.result.now c.in_ok-resolved.resolved c.as_slice.ensures c.in_ok-derived_within.ensures.components in
    let made = composed_components c.entries_are.ensures of.composed components same in
    (read_of c.resolved_are_apart.ensures.declarations of made, describe c.components_describe.ensures c.resolved_are_apart.ensures.declarations of.composed made OneOf)

pub returns-clause-types : goal.returns-clause-types
returns-clause-types c =
    let of = c.in_ok-resolved.ensures.composed in
    let derived = c.in_ok-derived_within.field-0 in
    let bounded = c.in_ok-resolved.bounded in
    let same = of_slice bounded derived.components c.as_slice.result.now c.in_ok-resolved.resolved c.as_slice.ensures c.in_ok-derived_within.ensures.components in
    let made = composed_components c.entries_are.ensures of.composed derived.components same in
    let types = subst (λ (xs : List Declaration). AreTypesOf (map declaration_view xs) bounded.all (entry_names derived.components) (map open_view derived.types)) c.as_slice.ensures c.in_ok-derived_within.ensures.types in (
      read_of c.resolved_are_apart.ensures.declarations of made,
      subst (λ all. AreTypesOf (map declaration_view c.in_ok-resolved.resolved) all (entry_names derived.components) (map open_view derived.types)) of.composed.all types,
    )

pub returns-clause-derived : goal.returns-clause-derived
returns-clause-derived c = (returns-clause-describes c).0

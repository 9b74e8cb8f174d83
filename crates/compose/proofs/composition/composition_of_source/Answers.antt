use Rattle.std.proofs.Common.{map, refl}
use Rattle.schema_core.specs.declared.alternatives.Alternatives.TheVariants.{OneOf}
use Rattle.shapes.specs.Views.{declaration_view}
use Rattle.compose.proofs.Composed.{composed_components, read_of, describe, entries_within}
use Rattle.compose.proofs.composition.composition_of_source.Goals as goal

pub returns-clause-describes : goal.returns-clause-describes
returns-clause-describes c =
    let of = c.in_ok-resolved.ensures.composed in
    let components = entries_within (map declaration_view c.in_ok-resolved.resolved) c.in_ok-resolved.bounded in
    let made = composed_components c.entries_are.ensures of.composed components refl in
    (read_of c.resolved_are_apart.ensures.declarations of made, describe c.components_describe.ensures c.resolved_are_apart.ensures.declarations of.composed made OneOf)

pub returns-clause-derived : goal.returns-clause-derived
returns-clause-derived c =
    let of = c.in_ok-resolved.ensures.composed in
    let components = entries_within (map declaration_view c.in_ok-resolved.resolved) c.in_ok-resolved.bounded in
    read_of c.resolved_are_apart.ensures.declarations of (composed_components c.entries_are.ensures of.composed components refl)

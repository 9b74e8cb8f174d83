use Rattle.std.proofs.Common.{◌∙◌, List, ℕ, map, option_map, ap, sym, subst}
use Rattle.std.specs.List.{filter_map}
use Rattle.texts.specs.Names.{place_in}
use Rattle.schema_core.specs.Entries.{entry_names}
use Rattle.shapes.specs.Views.{declaration_view}
use Rattle.instances.specs.Lists.{instance_at}
use Rattle.compose.specs.Types.{AreTypesOf}
use Rattle.compose.proofs.Composed.{components_are}
use Rattle.compose.proofs.TypesFound.{types_are}
use Rattle.compose.proofs.derive.derived_within.Goals as goal

pub returns-clause-types : goal.returns-clause-types
returns-clause-types c =
    let ss = map declaration_view c.args.resolved.now in
    let is = c.args.bounded.reach in
    let all = c.args.bounded.all in
    let components = c.in_ok-components.components in
    let made = components_are c.entries_are.ensures ss c.args.bounded c.requires components c.in_ok-components.ensures in
    let look : List (List ℕ) → List ℕ → _ = λ known name. option_map (instance_at is) (place_in name known) in
    let found = c.in_ok-types.ensures ∙ ap (filter_map (look c.args.bounded.names)) c.names-2.ensures.names ∙ ap (λ known. filter_map (look known) (entry_names components)) c.requires.names in
    subst (AreTypesOf ss all (entry_names components)) (sym found) (types_are ss all is c.requires.instances c.requires.differ (c.components_are_reachable.ensures ss all) components made)

use Rattle.std.proofs.Common.{◌∙◌, ◌++◌, [], List, map, option_map, ℕ, ap}
use Rattle.std.specs.List.{cons_option}
use Rattle.texts.specs.Names.{place_in}
use Rattle.open_types.specs.Open.{open_view}
use Rattle.instances.specs.Lists.{instance_at}
use Rattle.compose.proofs.TypesFound.{found_more}
use Rattle.compose.proofs.types.types_of.Goals as goal

pub loop-name-preserved : goal.loop-name-preserved
loop-name-preserved c =
    let look = λ (name : List ℕ). option_map (instance_at c.args.reach.now) (place_in name c.args.known.now) in
    let named = c.as_str.ensures ∙ c.name-item.is in
    found_more look c.args.names.now c.loop-name.name-index c.name-item.result (map open_view c.loop-name.types) (map open_view c.push_named.new.types) c.loop-name-test.true c.loop-name.invariant
    (c.in_ok-push_named.ensures ∙ ap (λ n. map open_view c.loop-name.types ++ cons_option (look n) []) named)

use Rattle.std.specs.BTreeMap.{get_by_text}
use Rattle.configuration.proofs.TypeLaws.{place_turn}
use Rattle.configuration.proofs.targets.places_among.Goals as goal

pub loop-name-preserved : goal.loop-name-preserved
loop-name-preserved c =
    place_turn (get_by_text c.args.places.now) c.loop-name.found c.push_place.new.found _ c.args.names.now c.loop-name.name-index c.name-item.result c.loop-name-test.true c.name-item.is c.loop-name.invariant c.in_ok-push_place.ensures

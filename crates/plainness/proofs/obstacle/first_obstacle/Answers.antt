use Rattle.std.proofs.Common.{◌≡◌, refl, arith}
use Rattle.std.proofs.lemmas.Grind.{common_steps}
use Rattle.plainness.specs.Obstacles.{first_obstacle}
use Rattle.plainness.proofs.obstacle.first_obstacle.Goals as goal

pub returns-in-Some : goal.returns-in-Some
returns-in-Some g c = λ o k.
    let told : _ ≡ o c.first-item.result = k _ c.in_ok-obstacle.field-0 (record { shown = _; shows = refl; says = record { met = c.in_ok-obstacle.ensures } }) in
    let before : first_obstacle o c.items.rest.now ≡ first_obstacle o c.args.items.now = c.items.invariant o k in
    grind (arith, common_steps)

pub items-preserved : goal.items-preserved
items-preserved g c = λ o k.
    let told : _ ≡ o c.first-item.result = k _ c.in_ok-obstacle.field-0 (record { shown = _; shows = refl; says = record { met = c.in_ok-obstacle.ensures } }) in
    let before : first_obstacle o c.items.rest.now ≡ first_obstacle o c.args.items.now = c.items.invariant o k in
    grind (arith, common_steps)

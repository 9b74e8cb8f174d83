use Rattle.std.proofs.Common.{map, rules}
use Rattle.open_types.specs.Open.{open_view, opens_view, substituted}
use Rattle.shapes.specs.Views.{declaration_view}
use Rattle.plainness.specs.Obstacles.{type_obstacle}
use Rattle.plainness.proofs.Firsts.{first_mapped, first_told}
use Rattle.plainness.proofs.obstacle.places_obstacle.Goals as goal

pub returns : goal.returns
returns c =
    let ss = map declaration_view c.args.declared.now in
    let args = opens_view c.args.arguments.now in
    first_told _ _ _ _ _ c.first_obstacle.ensures (first_mapped (type_obstacle ss) (substituted args) open_view c.args.types.now) (λ ty found k. search rules)

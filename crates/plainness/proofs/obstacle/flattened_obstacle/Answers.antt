use Rattle.std.proofs.Common.{map, rules}
use Rattle.open_types.specs.Open.{opens_view}
use Rattle.shapes.specs.Instances.{flattened_over}
use Rattle.shapes.specs.Views.{declaration_view, flattened_view}
use Rattle.plainness.specs.Obstacles.{field_obstacle}
use Rattle.plainness.proofs.Firsts.{first_mapped, first_told}
use Rattle.plainness.proofs.obstacle.flattened_obstacle.Goals as goal

pub returns : goal.returns
returns c =
    let ss = map declaration_view c.args.declared.now in
    let args = opens_view c.args.arguments.now in
    first_told _ _ _ _ _ c.first_obstacle.ensures (first_mapped (field_obstacle ss) (flattened_over args) flattened_view c.args.flattened.now) (λ field found k. search rules)

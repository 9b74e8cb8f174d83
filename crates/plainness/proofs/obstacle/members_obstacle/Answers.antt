use Rattle.std.proofs.Common.{map, rules}
use Rattle.open_types.specs.Open.{opens_view}
use Rattle.shapes.specs.Views.{declaration_view}
use Rattle.plainness.specs.Obstacles.{type_obstacle}
use Rattle.plainness.proofs.Firsts.{first_member, first_told}
use Rattle.plainness.proofs.obstacle.members_obstacle.Goals as goal

pub returns : goal.returns
returns c =
    let ss = map declaration_view c.args.declared.now in
    let args = opens_view c.args.arguments.now in
    first_told _ _ _ _ _ c.first_obstacle.ensures (first_member (type_obstacle ss) args c.args.members.now) (λ member found k. search rules)

use Rattle.std.proofs.Common.{map, rules}
use Rattle.open_types.specs.Open.{opens_view}
use Rattle.shapes.specs.Instances.{variant_over}
use Rattle.shapes.specs.Views.{declaration_view, variant_view}
use Rattle.plainness.specs.Obstacles.{variant_obstacle}
use Rattle.plainness.proofs.Firsts.{first_mapped, first_told}
use Rattle.plainness.proofs.obstacle.variants_obstacle.Goals as goal

pub returns : goal.returns
returns c =
    let ss = map declaration_view c.args.declared.now in
    let args = opens_view c.args.arguments.now in
    first_told _ _ _ _ _ c.first_obstacle.ensures (first_mapped (λ x. variant_obstacle ss c.args.tagging.now x.form) (variant_over args) variant_view c.args.variants.now) (λ variant found k. search rules)

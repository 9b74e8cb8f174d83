use Rattle.std.proofs.Common.{◌≤◌, arith}
use Rattle.type_table.proofs.Tables.{below-more}
use Rattle.type_table.proofs.types.Types.arguments.Goals as goal

pub returns-in_ok-items-in-Named-clause-below : goal.returns-in_ok-items-in-Named-clause-below
returns-in_ok-items-in-Named-clause-below c =
    let few : c.in-Named.arguments ≤ c.args.id = omega (arith, c.in-Named.ensures.below.0) in
    below-more c.in-Named.arguments c.args.id c.in_ok-items-in-Named.items few c.in_ok-items-in-Named.ensures.below

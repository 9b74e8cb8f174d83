use Rattle.std.proofs.Common.{arith}
use Rattle.std.proofs.lemmas.Grind.{common_steps}
use Rattle.resolving.specs.Known.{known}
use Rattle.resolving.proofs.Counted.{own-none}
use Rattle.resolving.proofs.arguments.own_type.Goals as goal

pub returns-else-is_empty : goal.returns-else-is_empty
returns-else-is_empty c = own-none (known c.args.names.now) c.args.place c.args.arguments.now c.if-is_empty.ensures

pub returns-in_ok-own_parameters : goal.returns-in_ok-own_parameters
returns-in_ok-own_parameters c = grind (arith, common_steps)

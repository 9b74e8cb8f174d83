use Rattle.std.proofs.Common.{◌∙◌}
use Rattle.resolving.proofs.Counted.{contained-none}
use Rattle.resolving.proofs.arguments.contained.Goals as goal

pub returns : goal.returns
returns c = contained-none c.args.head c.args.arguments (λ e. c.if-len-eq1.false (c.len.ensures ∙ e)) (λ e. c.if-len-eq2.false (c.len-else-len-eq1.ensures ∙ e))

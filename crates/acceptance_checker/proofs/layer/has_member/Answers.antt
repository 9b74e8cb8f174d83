use Rattle.std.proofs.Common.{◌∙◌}
use Rattle.acceptance_checker.proofs.Views.{has-pairs}
use Rattle.acceptance_checker.proofs.layer.has_member.Goals as goal

pub returns : goal.returns
returns c = c.contains_key.ensures ∙ has-pairs c.args.name.now c.args.members.now.entries

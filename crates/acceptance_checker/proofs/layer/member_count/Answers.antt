use Rattle.std.proofs.Common.{◌∙◌}
use Rattle.acceptance_checker.proofs.Views.{length-pairs}
use Rattle.acceptance_checker.proofs.layer.member_count.Goals as goal

pub returns : goal.returns
returns c = c.len.ensures.len ∙ length-pairs c.args.members.now.entries

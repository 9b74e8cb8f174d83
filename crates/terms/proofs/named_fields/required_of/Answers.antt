use Rattle.std.proofs.Common.{◌<◌, length, arith}
use Rattle.terms.proofs.Members.{required_more}
use Rattle.terms.proofs.named_fields.required_of.Goals as goal

pub loop-member-preserved : goal.loop-member-preserved
loop-member-preserved c =
    let lt : c.loop-member.member-index < length c.args.members.now = omega arith in
    required_more c.args.members.now c.loop-member.member-index c.member-item.result c.loop-member.required _ lt c.member-item.is c.loop-member.invariant c.in_ok-push_required.ensures

use Rattle.std.proofs.Common.{drop, cond, codes, Some, None, ap, sym}
use Rattle.gathering.proofs.Stopping.{no_front}
use Rattle.gathering.proofs.help.unknown_type.Goals as goal

pub returns-in-None : goal.returns-in-None
returns-in-None c =
    let message = c.args.message.now in
    sym (ap (λ b. cond b (Some (drop 13 message)) None) (no_front (codes "unknown type ") message c.in-None.ensures.cases))

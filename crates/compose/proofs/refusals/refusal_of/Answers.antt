use Rattle.std.proofs.Common.{get_or}
use Rattle.inlining.proofs.Laws.{among_at}
use Rattle.compose.proofs.refusals.refusal_of.Goals as goal

pub instance_text-requires : goal.instance_text-requires
instance_text-requires c =
    let numbers = c.args.numbers.now in
    c.requires (get_or numbers c.loop-number.number-index 0) (among_at numbers c.loop-number.number-index 0 c.loop-number-test.true)

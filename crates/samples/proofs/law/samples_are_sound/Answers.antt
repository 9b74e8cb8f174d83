use Rattle.std.proofs.Common.{arith}
use Rattle.samples.proofs.Sound.{sample_sound}
use Rattle.samples.proofs.law.samples_are_sound.Goals as goal

pub returns : goal.returns
returns c = λ many some few.
    sample_sound c.spelled_are_cut.ensures c.trees_are_read.ensures c.read_fields_are_named.ensures c.names_repeat_or_not.ensures.once c.resolution_is_exact.ensures.declarations many some few
    (c.rings_are_open.ensures many some (omega arith))

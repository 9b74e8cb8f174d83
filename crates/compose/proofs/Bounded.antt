-- What is bounded is not refused.
use Rattle.std.proofs.Common.{◌≤◌, inl, inr, length, arith}
use Rattle.instances.specs.Lists.{NoneAreMore}
use Rattle.closing.specs.Copies.{sum_over, instance_copies, NoMoreInAll}
use Rattle.closing.specs.Closed.{most_inlined}
use Rattle.compose.specs.Bounds.{BoundedAreNotRefused}

pub not_refused : NoneAreMore → NoMoreInAll → BoundedAreNotRefused
not_refused none_more no_more c ds ss e bounded (inl (crowded, at)) =
    let few : length crowded.0 ≤ length bounded.instances = none_more ss bounded.instances crowded.0 bounded.reached.instances crowded.1 crowded.2 in
    omega (arith, few, bounded.reached.few, crowded.3)
not_refused none_more no_more c ds ss e bounded (inr (inl large)) = omega (arith, bounded.reached.small large.0 large.1, large.2)
not_refused none_more no_more c ds ss e bounded (inr (inr (is, reached, inl clash))) = clash.4 (bounded.differ clash.0 clash.1 clash.2 clash.3 clash.5)
not_refused none_more no_more c ds ss e bounded (inr (inr (is, reached, inr (differ, inl deep)))) = omega (arith, bounded.shallow deep.0 deep.1 deep.2 deep.3, deep.4)
not_refused none_more no_more c ds ss e bounded (inr (inr (is, reached, inr (differ, inr (shallow, copied))))) =
    let few : sum_over (instance_copies ss most_inlined) copied.0 ≤ sum_over (instance_copies ss most_inlined) bounded.components =
    no_more (instance_copies ss most_inlined) copied.0 bounded.components copied.1.once (λ t o. bounded.shown.whole t (copied.1.are t o)) in
    omega (arith, few, bounded.copied, copied.2)

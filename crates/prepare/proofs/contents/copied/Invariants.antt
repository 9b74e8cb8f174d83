use Rattle.std.proofs.Common.{◌≡◌, ◌++◌, length}
use Rattle.prepare.proofs.contents.copied.Given as goal

abbrev pub invariant-spans : goal.invariant-spans
invariant-spans l = l.copy ++ l.rest ≡ l.spans

abbrev pub decreases-spans : goal.decreases-spans
decreases-spans l = length l.rest

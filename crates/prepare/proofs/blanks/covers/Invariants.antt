use Rattle.std.proofs.Common.{◌≡◌, length}
use Rattle.prepare.specs.Blanks.{covers}
use Rattle.prepare.proofs.blanks.covers.Given as goal

abbrev pub invariant-spans : goal.invariant-spans
invariant-spans l = covers l.rest l.at ≡ covers l.spans l.at

abbrev pub decreases-spans : goal.decreases-spans
decreases-spans l = length l.rest

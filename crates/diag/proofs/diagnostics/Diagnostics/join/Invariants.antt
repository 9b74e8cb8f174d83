use Rattle.std.proofs.Common.{◌≡◌}
use Rattle.diag.specs.Diagnostics.{joined_of}
use Rattle.diag.proofs.diagnostics.Diagnostics.join.Given as goal

abbrev pub invariant-loop-part : goal.invariant-loop-part
invariant-loop-part l = l.joined ≡ joined_of l.yielded

use Rattle.std.proofs.Common.{◌≡◌, ◌≤◌, length}
use denote.Text.{Utf8}
use denote.Shadow.{shadow}
use Rattle.std.specs.Str.{chars}
use Rattle.literals.specs.Scanning.{skip}
use Rattle.literals.proofs.scan.after_run.Given as goal

abbrev pub invariant-run : goal.invariant-run
invariant-run g l = shadow (Utf8 l.rest) × (skip (g.R.Run.passes l.run) (chars l.rest) ≡ skip (g.R.Run.passes l.run) (chars l.text)) × (length l.rest ≤ length l.text)

abbrev pub decreases-run : goal.decreases-run
decreases-run g l = length l.rest

use Rattle.std.proofs.Common.{◌≡◌, ◌<◌, ◌≤◌, ◌+◌, length}
use denote.Text.{Utf8}
use denote.Shadow.{shadow}
use Rattle.std.specs.Str.{chars}
use Rattle.lexing.specs.Scanning.{closing_at}
use Rattle.lexing.proofs.comment.after_block.Given as goal

abbrev pub invariant-marks : goal.invariant-marks
invariant-marks l =
    shadow (Utf8 l.rest) × (closing_at l.depth (chars l.rest) ≡ closing_at 1 (chars l.text)) × (length l.rest < length l.text + l.depth) × (l.depth + length l.rest ≤ 1 + length l.text)

abbrev pub decreases-marks : goal.decreases-marks
decreases-marks l = length l.rest

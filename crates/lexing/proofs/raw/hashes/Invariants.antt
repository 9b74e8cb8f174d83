use Rattle.std.proofs.Common.{◌≡◌, ◌≤◌, length}
use denote.Text.{Utf8}
use denote.Shadow.{shadow}
use Rattle.std.specs.Str.{chars}
use Rattle.lexing.specs.RawStrings.{hashes_at}
use Rattle.lexing.proofs.raw.hashes.Given as goal

abbrev pub invariant-hashes : goal.invariant-hashes
invariant-hashes l = shadow (Utf8 l.rest) × (hashes_at l.count (chars l.rest) ≡ hashes_at 0 (chars l.text)) × (l.count ≤ 255)

abbrev pub decreases-hashes : goal.decreases-hashes
decreases-hashes l = length l.rest

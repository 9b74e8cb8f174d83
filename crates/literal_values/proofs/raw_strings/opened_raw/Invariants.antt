use Rattle.std.proofs.Common.{◌≡◌, ◌≤◌, length}
use denote.Text.{Utf8}
use denote.Shadow.{shadow}
use Rattle.std.specs.Str.{chars}
use Rattle.literal_values.specs.Values.{raw_string}
use Rattle.literal_values.proofs.raw_strings.opened_raw.Given as goal

abbrev pub invariant-hashes : goal.invariant-hashes
invariant-hashes l = shadow (Utf8 l.rest) × (raw_string l.hashes (chars l.rest) ≡ raw_string 0 (chars l.text)) × (l.hashes ≤ 255)

abbrev pub decreases-hashes : goal.decreases-hashes
decreases-hashes l = length l.rest

use Rattle.std.proofs.Common.{◌≡◌, ◌≤◌, length}
use denote.Text.{Utf8}
use denote.Shadow.{shadow}
use Rattle.std.specs.Str.{chars}
use Rattle.literals.specs.Scanning.{after_raw_string}
use Rattle.literals.proofs.raw_strings.after_raw_string.Given as goal

abbrev pub invariant-hashes : goal.invariant-hashes
invariant-hashes l = shadow (Utf8 l.rest) × (after_raw_string l.hashes (chars l.rest) ≡ after_raw_string 0 (chars l.text)) × (length l.rest ≤ length l.text) × (l.hashes ≤ 255)

abbrev pub decreases-hashes : goal.decreases-hashes
decreases-hashes l = length l.rest

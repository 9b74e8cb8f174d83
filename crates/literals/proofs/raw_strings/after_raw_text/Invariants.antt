use Rattle.std.proofs.Common.{◌≡◌, ◌≤◌, length}
use denote.Text.{Utf8}
use denote.Shadow.{shadow}
use Rattle.std.specs.Str.{chars}
use Rattle.literals.specs.Scanning.{after_raw_text}
use Rattle.literals.proofs.raw_strings.after_raw_text.Given as goal

abbrev pub invariant-text : goal.invariant-text
invariant-text l = shadow (Utf8 l.rest) × (after_raw_text l.hashes (chars l.rest) ≡ after_raw_text l.hashes (chars l.text)) × (length l.rest ≤ length l.text)

abbrev pub decreases-text : goal.decreases-text
decreases-text l = length l.rest

use Rattle.std.proofs.Common.{◌≡◌, ◌≤◌, length, false}
use denote.Text.{Utf8}
use denote.Shadow.{shadow}
use Rattle.std.specs.Str.{chars}
use Rattle.literals.specs.Scanning.{after_string}
use Rattle.literals.proofs.strings.after_string.Given as goal

abbrev pub invariant-string : goal.invariant-string
invariant-string l = shadow (Utf8 l.rest) × (after_string l.escapes l.backslash (chars l.rest) ≡ after_string l.escapes false (chars l.text)) × (length l.rest ≤ length l.text)

abbrev pub decreases-string : goal.decreases-string
decreases-string l = length l.rest

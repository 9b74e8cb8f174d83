use Rattle.std.proofs.Common.{◌≡◌, ◌≤◌, length, true}
use denote.Text.{Utf8}
use denote.Shadow.{shadow}
use Rattle.std.specs.Str.{chars}
use Rattle.literal_values.specs.Values.{unescaped}
use Rattle.literal_values.proofs.escapes.after_blanks.Given as goal

abbrev pub invariant-blanks : goal.invariant-blanks
invariant-blanks l = shadow (Utf8 l.rest) × (unescaped true (chars l.rest) ≡ unescaped true (chars l.text)) × (length l.rest ≤ length l.text)

abbrev pub decreases-blanks : goal.decreases-blanks
decreases-blanks l = length l.rest

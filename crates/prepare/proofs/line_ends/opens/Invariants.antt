use Rattle.std.proofs.Common.{◌≡◌, length}
use denote.Text.{Utf8}
use denote.Shadow.{shadow}
use Rattle.std.specs.Str.{chars}
use Rattle.prepare.specs.FileTexts.{opens}
use Rattle.prepare.proofs.line_ends.opens.Given as goal

abbrev pub invariant-blanks : goal.invariant-blanks
invariant-blanks l = shadow (Utf8 l.rest) × (opens (chars l.rest) ≡ opens (chars l.text))

abbrev pub decreases-blanks : goal.decreases-blanks
decreases-blanks l = length l.rest

use Rattle.std.proofs.Common.{◌≡◌, length}
use denote.Text.{Utf8}
use denote.Shadow.{shadow}
use Rattle.std.specs.Str.{chars}
use Rattle.prepare.specs.FileTexts.{from_feed}
use Rattle.prepare.proofs.line_ends.from_feed.Given as goal

abbrev pub invariant-chars : goal.invariant-chars
invariant-chars l = shadow (Utf8 l.rest) × (from_feed (chars l.rest) ≡ from_feed (chars l.source))

abbrev pub decreases-chars : goal.decreases-chars
decreases-chars l = length l.rest

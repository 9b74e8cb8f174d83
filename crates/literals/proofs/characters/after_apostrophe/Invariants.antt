use Rattle.std.proofs.Common.{◌≡◌, ◌≤◌, length}
use denote.Text.{Utf8}
use denote.Shadow.{shadow}
use Rattle.std.specs.Str.{chars}
use Rattle.literals.specs.Scanning.{after_apostrophe}
use Rattle.literals.proofs.characters.after_apostrophe.Given as goal

abbrev pub invariant-text : goal.invariant-text
invariant-text l = shadow (Utf8 l.rest) × (after_apostrophe (chars l.rest) ≡ after_apostrophe (chars l.text)) × (length l.rest ≤ length l.text)

abbrev pub decreases-text : goal.decreases-text
decreases-text l = length l.rest

use Rattle.std.proofs.Common.{◌≡◌, ◌≤◌, length}
use denote.Text.{Utf8}
use denote.Shadow.{shadow}
use Rattle.std.specs.Str.{chars}
use Rattle.unicode_ident.specs.Ident.{is_xid_continue}
use Rattle.literals.specs.Scanning.{skip, last_of_word}
use Rattle.literals.proofs.numbers.word.Given as goal

abbrev pub invariant-word : goal.invariant-word
invariant-word l =
    shadow (Utf8 l.rest) × (last_of_word l.before (chars l.rest) ≡ last_of_word l.fn.first (chars l.text))
    × (skip is_xid_continue (chars l.rest) ≡ skip is_xid_continue (chars l.text)) × (length l.rest ≤ length l.text)

abbrev pub decreases-word : goal.decreases-word
decreases-word l = length l.rest

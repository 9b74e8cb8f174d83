use Rattle.std.proofs.Common.{◌≡◌, ◌++◌, length, string_bytes}
use denote.Text.{Utf8}
use denote.Shadow.{shadow}
use Rattle.std.specs.Str.{chars, encode_utf8_all}
use Rattle.prepare.specs.Blanks.{blanked}
use Rattle.prepare.proofs.blanks.with_blanks.Given as goal

-- the text so far and what is made of the rest are what is made of all
abbrev pub invariant-chars : goal.invariant-chars
invariant-chars l =
    shadow (Utf8 l.rest)
    × (string_bytes l.text ++ encode_utf8_all (blanked l.spans l.end (chars l.rest)) ≡ encode_utf8_all (blanked l.spans l.end (chars l.source)))

abbrev pub decreases-chars : goal.decreases-chars
decreases-chars l = length l.rest

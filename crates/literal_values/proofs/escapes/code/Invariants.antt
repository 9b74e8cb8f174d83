use Rattle.std.proofs.Common.{◌≡◌, ◌<◌, ◌≤◌, ◌^◌, length}
use denote.Text.{Utf8}
use denote.Shadow.{shadow}
use Rattle.std.specs.Str.{chars}
use Rattle.literal_values.specs.Values.{in_code}
use Rattle.literal_values.proofs.escapes.code.Given as goal

abbrev pub invariant-code : goal.invariant-code
invariant-code l =
    shadow (Utf8 l.rest) × (in_code l.digits l.number (chars l.rest) ≡ in_code 0 0 (chars l.text)) × (length l.rest ≤ length l.text)
    × (l.digits ≤ 6) × (l.number < 16 ^ l.digits)

abbrev pub decreases-code : goal.decreases-code
decreases-code l = length l.rest

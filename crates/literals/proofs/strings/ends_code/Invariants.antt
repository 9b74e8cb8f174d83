use Rattle.std.proofs.Common.{◌≡◌, ◌<◌, ◌≤◌, ◌^◌, length}
use denote.Text.{Utf8}
use denote.Shadow.{shadow}
use Rattle.std.specs.Str.{chars}
use Rattle.literals.specs.Scanning.{code_goes_on}
use Rattle.literals.proofs.strings.ends_code.Given as goal

abbrev pub invariant-code : goal.invariant-code
invariant-code l = shadow (Utf8 l.rest) × (code_goes_on l.digits l.value (chars l.rest) ≡ code_goes_on 0 0 (chars l.text)) × (l.digits ≤ 6) × (l.value < 16 ^ l.digits)

abbrev pub decreases-code : goal.decreases-code
decreases-code l = length l.rest

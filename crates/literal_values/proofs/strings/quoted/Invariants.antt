use Rattle.std.proofs.Common.{◌≡◌, ◌++◌, length, option_map}
use denote.Text.{Utf8}
use denote.Shadow.{shadow}
use Rattle.std.specs.Str.{chars}
use Rattle.std.specs.String.{string_bytes}
use Rattle.literal_values.specs.Pieces.{quoted}
use Rattle.literal_values.proofs.strings.quoted.Given as goal

abbrev pub invariant-pieces : goal.invariant-pieces
invariant-pieces l =
    shadow (Utf8 l.rest) × (option_map (λ bytes. string_bytes l.value ++ bytes) (quoted l.quoting (chars l.rest)) ≡ quoted l.quoting (chars l.text))

abbrev pub decreases-pieces : goal.decreases-pieces
decreases-pieces l = length l.rest

use Rattle.std.proofs.Common.{◌≡◌, map, take}
use Rattle.acceptance.specs.Json.{text}
use Rattle.terms.proofs.tagged.text_values.Given as goal

-- the values so far are those of the names so far
abbrev pub invariant-loop-name : goal.invariant-loop-name
invariant-loop-name l = l.values ≡ map text (take l.name-index l.names)

use Rattle.std.proofs.Common.{◌≡◌, take, string_bytes}
use Rattle.telling.specs.Printable.{escaped}
use Rattle.telling.proofs.printing.escaped.Given as goal

-- those so far are shown
abbrev pub invariant-loop-c : goal.invariant-loop-c
invariant-loop-c l = string_bytes l.text ≡ escaped (take l.c-index l.characters)

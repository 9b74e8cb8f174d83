use Rattle.std.proofs.Common.{◌≡◌, ◌++◌, ℕ, List, [], string_bytes, encode_utf8_all}
use Rattle.telling.specs.Printable.{shown_behind}
use Rattle.telling.proofs.printing.printable.Given as goal

-- whatever follows, the text so far and what is shown of that behind the name are what is shown of all
abbrev pub invariant-loop-c : goal.invariant-loop-c
invariant-loop-c l =
    (rest : List ℕ) → encode_utf8_all (shown_behind [] (l.yielded ++ rest)) ≡ string_bytes l.printing.text ++ encode_utf8_all (shown_behind l.printing.name.items rest)

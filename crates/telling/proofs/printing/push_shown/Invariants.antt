use Rattle.std.proofs.Common.{◌≡◌, ◌≤◌, ◌++◌, string_bytes, encode_utf8_all}
use Rattle.std.specs.Char.Escape.{escape_unicode}
use Rattle.std.specs.Char.Iter.{escape_rest, escape_end}
use Rattle.telling.proofs.printing.push_shown.Given as goal

-- what is left of the escape completes it
abbrev pub invariant-escape : goal.invariant-escape
invariant-escape l =
    (string_bytes l.text ++ encode_utf8_all (escape_rest l.escape) ≡ string_bytes l.fn.text ++ encode_utf8_all (escape_unicode l.fn.c))
    × (escape_end l.escape ≤ 10)

use Rattle.std.proofs.Common.{◌≡◌, ◌++◌, ℕ, List, string_bytes}
use Rattle.std.specs.Str.{encode_utf8_all}
use Rattle.prepare.specs.FileTexts.{with_feeds}
use Rattle.prepare.specs.Returns.{waiting}
use Rattle.prepare.proofs.line_ends.with_feeds.Given as goal

-- whatever follows, the text so far and what is made of that with what waits are what is made of all
abbrev pub invariant-loop-c : goal.invariant-loop-c
invariant-loop-c l = (rest : List ℕ) → encode_utf8_all (with_feeds (l.yielded ++ rest)) ≡ string_bytes l.text ++ encode_utf8_all (with_feeds (waiting l.waits ++ rest))

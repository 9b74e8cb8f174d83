use Rattle.std.proofs.Common.{◌≡◌, length, map, string_bytes}
use Rattle.file_runs.specs.Words.{question_from, question_in}
use Rattle.file_runs.proofs.arguments.question_in.Given as goal

-- the words behind are still to be looked at
abbrev pub invariant-words : goal.invariant-words
invariant-words l = question_from l.is_value (map string_bytes l.rest) ≡ question_in (map string_bytes l.words)

abbrev pub decreases-words : goal.decreases-words
decreases-words l = length l.rest

use Rattle.std.proofs.Common.{◌≡◌, length, map, string_bytes}
use Rattle.file_runs.specs.Words.{after, nothing_asked}
use Rattle.file_runs.proofs.arguments.request_of.Given as goal

abbrev pub invariant-words : goal.invariant-words
invariant-words l = after (map string_bytes l.rest) l.state ≡ after (map string_bytes l.words) nothing_asked

abbrev pub decreases-words : goal.decreases-words
decreases-words l = length l.rest

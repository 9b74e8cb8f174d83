use Rattle.std.proofs.Common.{◌≡◌, ◌++◌}
use Rattle.documents.proofs.merging.listed.Given as goal

-- the list and what is left are all of the texts
abbrev pub invariant-loop-name : goal.invariant-loop-name
invariant-loop-name l = l.list ++ l.name-iterator ≡ l.fn.texts.entries

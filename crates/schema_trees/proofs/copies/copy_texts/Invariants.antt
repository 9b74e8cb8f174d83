use Rattle.std.proofs.Common.{◌≡◌, take}
use Rattle.schema_trees.proofs.copies.copy_texts.Given as goal

-- the copies so far are the texts so far
abbrev pub invariant-loop-text : goal.invariant-loop-text
invariant-loop-text l = l.copies ≡ take l.text-index l.text-items

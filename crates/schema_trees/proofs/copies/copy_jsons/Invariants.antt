use Rattle.std.proofs.Common.{◌≡◌, take}
use Rattle.schema_trees.proofs.copies.copy_jsons.Given as goal

-- the copies so far are the values so far
abbrev pub invariant-loop-json : goal.invariant-loop-json
invariant-loop-json l = l.copies ≡ take l.json-index l.json-items

use Rattle.std.proofs.Common.{◌≡◌, ℕ, List, length}
use Rattle.reaching.specs.Reached.{nodes_of}
use Rattle.reaching.specs.Taken.{names_in, entries_with, entry}
use Rattle.reaching.proofs.unreached.names_by_name.Given as goal

abbrev pub invariant-nodes : goal.invariant-nodes
invariant-nodes l = (name : List ℕ) → entries_with (names_in l.by_name) (nodes_of l.rest) name ≡ entry (nodes_of l.nodes) name

abbrev pub decreases-nodes : goal.decreases-nodes
decreases-nodes l = length l.rest

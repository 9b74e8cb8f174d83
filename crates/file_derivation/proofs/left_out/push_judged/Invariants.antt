use Rattle.std.proofs.Common.{◌≡◌, ◌++◌, length, map}
use Rattle.reaching.specs.Reached.{nodes_of}
use Rattle.file_derivation.specs.OutNodes.{judged_node}
use Rattle.file_derivation.proofs.left_out.push_judged.Given as goal

abbrev pub invariant-judged : goal.invariant-judged
invariant-judged l = nodes_of l.nodes ++ map judged_node l.rest ≡ nodes_of l.initial.nodes ++ map judged_node l.judged

abbrev pub decreases-judged : goal.decreases-judged
decreases-judged l = length l.rest

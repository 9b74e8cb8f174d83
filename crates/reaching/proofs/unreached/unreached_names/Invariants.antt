use Rattle.std.specs.BTreeMap.{btree_map_len}
use Rattle.reaching.specs.Reached.{nodes_of}
use Rattle.reaching.specs.Taken.{texts_of, names_in}
use Rattle.reaching.proofs.Taking.{AreLeft}
use Rattle.reaching.proofs.unreached.unreached_names.Given as goal

abbrev pub invariant-reached : goal.invariant-reached
invariant-reached l = AreLeft (nodes_of l.nodes) (texts_of l.reached) (names_in l.by_name)

abbrev pub decreases-reached : goal.decreases-reached
decreases-reached l = btree_map_len l.by_name

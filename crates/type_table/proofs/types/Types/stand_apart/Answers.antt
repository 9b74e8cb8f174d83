use Rattle.std.proofs.Common.{subst}
use Rattle.std.specs.BTreeMap.{get}
use Rattle.type_table.specs.Keys.{key_cmp}
use Rattle.type_table.specs.Nodes.{nodes_of}
use Rattle.type_table.specs.Types.{AreDistinctTypes}
use Rattle.type_table.proofs.Parts.{distinct-types}
use Rattle.type_table.proofs.types.Types.stand_apart.Goals as goal

pub returns : goal.returns
returns c = subst AreDistinctTypes c.self.view_is (distinct-types (get key_cmp c.self.inside.index) (nodes_of c.self.inside.entries.items) c.self.invariant.table)

use Rattle.std.proofs.Common.{take}
use Rattle.serde_json.specs.View.{items_view}
use Rattle.configuration_json.specs.Form.{AreRows}
use Rattle.configuration_json.proofs.renames.table_of.Given as goal

-- the items so far say the rows of the table
abbrev pub invariant-loop-item : goal.invariant-loop-item
invariant-loop-item l = AreRows (items_view (take l.item-index l.items)) l.table

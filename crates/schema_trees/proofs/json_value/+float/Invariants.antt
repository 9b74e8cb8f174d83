use Rattle.std.proofs.Common.{◌≡◌, drop}
use Rattle.serde_json.specs.View.{items_view, members_view}
use Rattle.serde_json.specs.Written.{items_have_float, members_have_float}
use Rattle.schema_trees.specs.Held.{HoldsItems}
use Rattle.schema_trees.proofs.Holds.{HoldsValues}
use Rattle.schema_trees.proofs.json_value.+float.Given as goal

-- what is left holds a float exactly if the whole does, and the whole is held where what is left is
abbrev pub invariant-items_hold_float-loop-item : goal.invariant-items_hold_float-loop-item
invariant-items_hold_float-loop-item l = record {
  float : items_have_float (items_view (drop l.item-index l.items)) ≡ items_have_float (items_view l.items);
  held : HoldsItems (items_view (drop l.item-index l.items)) → HoldsItems (items_view l.items);
}

abbrev pub invariant-members_hold_float-loop-key : goal.invariant-members_hold_float-loop-key
invariant-members_hold_float-loop-key l = record {
  float : members_have_float (members_view l._key-iterator) ≡ members_have_float (members_view l.members.entries);
  held : HoldsValues (members_view l._key-iterator) → HoldsValues (members_view l.members.entries);
}

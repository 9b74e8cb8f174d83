-- Parts of what a row gives.
use Rattle.std.specs.Prelude.{◌≢◌, ℕ, List, Option, Some, option_and_then}
use Rattle.std.specs.Option.{option_map_or}
use Rattle.serde_json.specs.Data.{Data, Items, no_items, item}
use Rattle.serde_json.specs.Find.{get, as_array, as_number, as_str, as_u64}
use Rattle.rows.specs.declared.error.RowError.{RowError}
use Rattle.rows.specs.declared.error.RowError.TheVariants.{Form, Wanted, Memory}

-- the text of the member
abbrev pub text_at : List ℕ → Data → Option (List ℕ)
text_at name given = option_and_then as_str (get name given)

-- the number, from 0 on
abbrev pub count_of : Data → Option ℕ
count_of given = option_and_then as_u64 (as_number given)

-- the number of the member
abbrev pub count_at : List ℕ → Data → Option ℕ
count_at name given = option_and_then count_of (get name given)

-- the items of the member
abbrev pub list_at : List ℕ → Data → Option Items
list_at name given = option_and_then as_array (get name given)

-- the items of the member, or none where there is no member
abbrev pub items_at : List ℕ → Data → Option Items
items_at name given = option_map_or as_array (get name given) (Some no_items)

-- the data are no list of two
abbrev pub IsNoPair : Data → Type 0
IsNoPair given = (one other : Data) → as_array given ≢ Some (item one (item other no_items))

-- the error says that a part is wanted
abbrev pub IsWanted : RowError → Type 0
IsWanted (Wanted part) = Unit {0}
IsWanted (Form line) = ⊥
IsWanted Memory = ⊥

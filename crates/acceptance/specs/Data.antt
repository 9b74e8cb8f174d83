-- What serde_json holds for a JSON value with whole numbers, and back.
use Rattle.std.specs.Prelude.{ℤ, pos, negsuc}
use Rattle.serde_json.specs.Data.{Num, unsigned, negative, float, Data, Items as DataItems, Members as DataMembers, no_items as no_data, item as data_item, no_members as no_entries, member as entry, null as d_null, boolean as d_boolean, number as d_number, string, array, object}
use Rattle.acceptance.specs.Json.{Json, null, boolean, number, text, list, map, Items, no_items, item, Members, no_members, member}

abbrev pub num_of : ℤ → Num
num_of (pos n) = unsigned n
num_of (negsuc n) = negative (negsuc n)

abbrev mutual
  pub data_of : Json → Data
  data_of null = d_null
  data_of (boolean b) = d_boolean b
  data_of (number n) = d_number (num_of n)
  data_of (text s) = string s
  data_of (list xs) = array (items_data xs)
  data_of (map ms) = object (members_data ms)

  pub items_data : Items → DataItems
  items_data no_items = no_data
  items_data (item x xs) = data_item (data_of x) (items_data xs)

  pub members_data : Members → DataMembers
  members_data no_members = no_entries
  members_data (member k x ms) = entry k (data_of x) (members_data ms)

-- The value that serde_json holds. A float is none of these values: here it reads as null.
abbrev pub number_of : Num → Json
number_of (unsigned n) = number (pos n)
number_of (negative z) = number z
number_of (float x) = null

abbrev mutual
  pub json_of : Data → Json
  json_of d_null = null
  json_of (d_boolean b) = boolean b
  json_of (d_number n) = number_of n
  json_of (string s) = text s
  json_of (array xs) = list (json_items xs)
  json_of (object ms) = map (json_members ms)

  pub json_items : DataItems → Items
  json_items no_data = no_items
  json_items (data_item d ds) = item (json_of d) (json_items ds)

  pub json_members : DataMembers → Members
  json_members no_entries = no_members
  json_members (entry k d ms) = member k (json_of d) (json_members ms)

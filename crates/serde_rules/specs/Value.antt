-- What serde's items say of a field or a variant (serde.rs, "Field attributes", "Variant attributes").
use Rattle.std.specs.Prelude.{ℕ, List, Bool, false, ◌||◌, not, bytes_eq, codes}
use Rattle.std.specs.List.{list_any}
use Rattle.std.specs.Option.{option_map_or}
use Rattle.attributes.specs.declared.serde_item.SerdeItem.{SerdeItem}
use Rattle.serde_rules.specs.declared.value.SerdeValue.{SerdeValue}
use Rattle.serde_rules.specs.Items.{is_named, has_item, last_text}

abbrev pub is_skipping : SerdeItem → Bool
is_skipping item = is_named (codes "skip") item || is_named (codes "skip_serializing") item || is_named (codes "skip_deserializing") item

-- the module that tells an absent member from null
abbrev pub is_double_option : List ℕ → Bool
is_double_option text = bytes_eq text (codes "::serde_with::rust::double_option")

abbrev pub value_rules : List SerdeItem → SerdeValue
value_rules items = record {
  skip = list_any is_skipping items;
  rename = last_text (codes "rename") items;
  default = has_item (codes "default") items;
  flatten = has_item (codes "flatten") items;
  skip_serializing_if = has_item (codes "skip_serializing_if") items;
  double_option = option_map_or is_double_option (last_text (codes "with") items) false;
}

-- serde's items let no member of a field of these rules be absent, in a container whose fields may all be absent or not; that of an option still may be
abbrev pub is_required : SerdeValue → Bool → Bool
is_required field all_default = not (field.skip_serializing_if || field.double_option || field.default || all_default)

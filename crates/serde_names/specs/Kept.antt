-- The fields and the variants that serde keeps (serde.rs, "Field attributes", "Variant attributes").
use Rattle.std.specs.Prelude.{List, Bool, not, ◌&&◌, filter}
use Rattle.attributes.specs.Attributes.{serde_items}
use Rattle.serde_rules.specs.declared.value.SerdeValue.{SerdeValue}
use Rattle.serde_rules.specs.Value.{value_rules}
use Rattle.syntax.specs.Items.{FieldItem, VariantItem}

-- what serde's items before a field say of it
abbrev pub value_of : FieldItem → SerdeValue
value_of f = value_rules (serde_items f.attrs)

-- a field that serde skips is left out
abbrev pub is_kept : FieldItem → Bool
is_kept f = not (value_of f).skip

abbrev pub kept : List FieldItem → List FieldItem
kept fs = filter is_kept fs

-- a field that is kept is a member by its own name, or it is flattened: the members of its value are
abbrev pub is_own : FieldItem → Bool
is_own f = is_kept f && not (value_of f).flatten

abbrev pub own : List FieldItem → List FieldItem
own fs = filter is_own fs

abbrev pub is_flattened : FieldItem → Bool
is_flattened f = is_kept f && (value_of f).flatten

abbrev pub flattened : List FieldItem → List FieldItem
flattened fs = filter is_flattened fs

-- what serde's items before a variant say of it
abbrev pub value_of_variant : VariantItem → SerdeValue
value_of_variant v = value_rules (serde_items v.attrs)

-- a variant that serde skips is left out
abbrev pub is_kept_variant : VariantItem → Bool
is_kept_variant v = not (value_of_variant v).skip

abbrev pub kept_variants : List VariantItem → List VariantItem
kept_variants vs = filter is_kept_variant vs

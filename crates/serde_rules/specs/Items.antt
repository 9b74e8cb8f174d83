-- The items of serde's lists by their names (serde.rs, "Attributes"). All lists of one place are one list, from left to right.
use Rattle.std.specs.Prelude.{ℕ, List, Bool, cond, Option, None, option_map, bytes_eq}
use Rattle.std.specs.List.{list_any, filter_map, last_or}
use Rattle.attributes.specs.declared.serde_item.SerdeItem.{SerdeItem}
use Rattle.attributes.specs.declared.serde_item.SerdeText.{SerdeText}

-- an item counts by the text of its name
abbrev pub is_named : List ℕ → SerdeItem → Bool
is_named name item = bytes_eq item.name.text name

-- the literal of an item of this name, where it has one
abbrev pub literal_for : List ℕ → SerdeItem → Option SerdeText
literal_for name item = cond (is_named name item) item.value None

abbrev pub text_for : List ℕ → SerdeItem → Option (List ℕ)
text_for name item = option_map (λ literal. literal.text) (literal_for name item)

-- an item of this name is among these
abbrev pub has_item : List ℕ → List SerdeItem → Bool
has_item name items = list_any (is_named name) items

-- the text of the last item of this name that has one
abbrev pub last_text : List ℕ → List SerdeItem → Option (List ℕ)
last_text name items = last_or None (filter_map (text_for name) items)

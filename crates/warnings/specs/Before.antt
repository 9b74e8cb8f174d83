-- What is said of the attributes before a declaration, a field or a variant.
use Rattle.std.specs.Prelude.{ℕ, List, [], ◌∷◌, ◌++◌, Bool, true, false, cond, ◌&&◌, ◌||◌, codes, bytes_eq}
use Rattle.std.specs.List.{flat_map}
use Rattle.texts.specs.declared.span.Span.{Span}
use Rattle.tokens.specs.Trees.{Tree, token, group, Trees, end, ◌▸◌}
use Rattle.written_types.specs.Written.{WrittenPath, path_of}
use Rattle.attributes.specs.Attributes.{AttributeItem, MetaItem, word, value, items, doc, is_word, serde_items}
use Rattle.serde_rules.specs.Items.{has_item}
use Rattle.warnings.specs.declared.rules.Place.{Place}
use Rattle.warnings.specs.declared.rules.Place.TheVariants as places
use Rattle.warnings.specs.declared.paths.TheConstants.{INSIDE_CFG_ATTR, BY_ANOTHER_TOOL}
use Rattle.warnings.specs.Rules.{WarningItem, warning_at, warnings_of_item}

-- an item of this name stands before something
abbrev pub stands_before : List AttributeItem → List ℕ → Bool
stands_before attributes name = has_item name (serde_items attributes)

-- the word `serde`
abbrev pub is_serde : Tree → Bool
is_serde (token t) = bytes_eq t.text (codes "serde")
is_serde (group b ts s) = false

abbrev pub is_group : Tree → Bool
is_group (token t) = false
is_group (group b inside s) = true

abbrev pub begin_with_group : Trees → Bool
begin_with_group end = false
begin_with_group (t ▸ ts) = is_group t

-- that word stands before a group, at any depth
abbrev mutual
  pub hold_serde : Trees → Bool
  hold_serde end = false
  hold_serde (t ▸ ts) = is_serde t && begin_with_group ts || (has_serde_inside t || hold_serde ts)

  pub has_serde_inside : Tree → Bool
  has_serde_inside (token t) = false
  has_serde_inside (group b inside s) = hold_serde inside

abbrev pub holds_serde : MetaItem → Bool
holds_serde (items b inside s) = hold_serde inside
holds_serde word = false
holds_serde (value ws) = false
holds_serde (doc text) = false

abbrev pub path_span : WrittenPath → Span
path_span (path_of leading ss s) = s

abbrev pub is_of_field : Place → Bool
is_of_field (places.Field denied option default) = true
is_of_field (places.Flattened denied asked) = true
is_of_field places.Unnamed = true
is_of_field _ = false

-- of an attribute by its path
abbrev pub warnings_of_path : Place → AttributeItem → List WarningItem
warnings_of_path place a =
    cond (is_word (codes "cfg_attr") a.path && holds_serde a.meta) (warning_at (path_span a.path) INSIDE_CFG_ATTR.now ∷ [])
    (cond (is_word (codes "serde_as") a.path && is_of_field place) (warning_at (path_span a.path) BY_ANOTHER_TOOL.now ∷ []) [])

abbrev pub warnings_of_attribute : Place → AttributeItem → List WarningItem
warnings_of_attribute place a = flat_map (warnings_of_item place) a.items ++ warnings_of_path place a

-- of what stands before a declaration, a field or a variant
abbrev pub warnings_before : Place → List AttributeItem → List WarningItem
warnings_before place attributes = flat_map (warnings_of_attribute place) attributes

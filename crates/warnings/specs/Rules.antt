-- What is said of serde's items, by the table `RULES` (serde.rs, "Attributes").
use Rattle.std.specs.Prelude.{ℕ, List, [], ◌∷◌, ◌++◌, Bool, true, false, not, cond, ◌&&◌, ◌||◌, map, Option, Some, None}
use Rattle.std.specs.Borrow.{Bor}
use Rattle.std.specs.List.{list_any, flat_map}
use Rattle.texts.specs.declared.span.Span.{Span}
use Rattle.attributes.specs.declared.serde_item.SerdeItem.{SerdeItem}
use Rattle.attributes.specs.declared.serde_item.SerdeText.{SerdeText}
use Rattle.serde_rules.specs.Items.{is_named}
use Rattle.serde_rules.specs.Value.{is_double_option}
use Rattle.warnings.specs.declared.warning.Warning.{Warning}
use Rattle.warnings.specs.declared.rules.Form.{Form}
use Rattle.warnings.specs.declared.rules.Form.TheVariants as forms
use Rattle.warnings.specs.declared.rules.Place.{Place}
use Rattle.warnings.specs.declared.rules.Place.TheVariants as places
use Rattle.warnings.specs.declared.rules.Site.{Site}
use Rattle.warnings.specs.declared.rules.Site.TheVariants as sites
use Rattle.warnings.specs.declared.rules.TheConstants.{RULES, HARMLESS, KNOWN_ON_TUPLE, UNREAD_ON_TUPLE, UNREAD_ON_UNNAMED}

-- a place, and what is said of it
pub record WarningItem : Type 0 where
  pub span : Span
  pub message : List ℕ

abbrev pub warning_at : Span → List ℕ → WarningItem
warning_at span message = record { span = span; message = message }

-- what the program's values are
abbrev pub warning_view : Warning → WarningItem
warning_view w = warning_at w.span w.message.now

-- ---- forms and places

abbrev pub is_empty : List ℕ → Bool
is_empty [] = true
is_empty (b ∷ bs) = false

-- an item of this value has the form
abbrev pub is_of_form : Form → Option SerdeText → Bool
is_of_form forms.Any value = true
is_of_form forms.NoText None = true
is_of_form forms.NoText (Some literal) = false
is_of_form forms.EmptyText None = false
is_of_form forms.EmptyText (Some literal) = is_empty literal.text
is_of_form forms.NoDoubleOption None = true
is_of_form forms.NoDoubleOption (Some literal) = not (is_double_option literal.text)

-- the place is one of the site
abbrev pub stands_at : Site → Place → Bool
stands_at sites.Declaration (places.Struct flattens) = true
stands_at sites.Declaration (places.Tuple several) = true
stands_at sites.Declaration (places.Enum content named) = true
stands_at sites.Struct (places.Struct flattens) = true
stands_at sites.FlatteningStruct (places.Struct flattens) = flattens
stands_at sites.SeveralUnnamed (places.Tuple several) = several
stands_at sites.Naming (places.Struct flattens) = true
stands_at sites.Naming (places.Enum content named) = true
stands_at sites.Naming (places.Variant named) = named
stands_at sites.NamedEnum (places.Enum content named) = named
stands_at sites.ContentEnum (places.Enum content named) = content
stands_at sites.OtherNamedEnum (places.Enum content named) = not content && named
stands_at sites.Variant (places.Variant named) = true
stands_at sites.Field (places.Field denied option default) = true
stands_at sites.AnyField (places.Field denied option default) = true
stands_at sites.AnyField (places.Flattened denied asked) = true
stands_at sites.DeniedField (places.Field denied option default) = denied
stands_at sites.DeniedField (places.Flattened denied asked) = denied
stands_at sites.NeededField (places.Field denied option default) = not option && not default
stands_at sites.NeededOption (places.Field denied option default) = option && not default
stands_at sites.AskedFlattened (places.Flattened denied asked) = asked
stands_at _ _ = false

-- ---- what is said

-- a row of the table: the name of an item, its form, its places, and what is said of it there
pub record RuleItem : Type 0 where
  pub item : List ℕ
  pub form : Form
  pub site : Site
  pub message : List ℕ

abbrev pub rule_view : Bor (List ℕ) × Form × Site × Bor (List ℕ) → RuleItem
rule_view r = record { item = r.0.now; form = r.1; site = r.2; message = r.3.now }

unfoldable pub rules : List RuleItem
rules = map (λ (item, form, site, message). record { item = item.now; form = form; site = site; message = message.now }) RULES

-- what the rule says of the item at the place
abbrev pub warned_by : Place → SerdeItem → RuleItem → List WarningItem
warned_by place item r = cond (is_named r.item item && is_of_form r.form item.value && stands_at r.site place) (warning_at item.name.span r.message ∷ []) []

-- the items that change no JSON where no item is read
unfoldable pub harmless : List (List ℕ)
harmless = map (λ name. name.now) HARMLESS

-- beside them, those that change none before a struct with unnamed fields, or of which a rule speaks there
unfoldable pub known_on_tuple : List (List ℕ)
known_on_tuple = map (λ name. name.now) KNOWN_ON_TUPLE

abbrev pub is_among : List (List ℕ) → SerdeItem → Bool
is_among names item = list_any (λ name. is_named name item) names

-- what is said of an item where none is read
abbrev pub unread : Place → SerdeItem → List WarningItem
unread (places.Tuple several) item = cond (is_among harmless item || is_among known_on_tuple item) [] (warning_at item.name.span UNREAD_ON_TUPLE.now ∷ [])
unread places.Unnamed item = cond (is_among harmless item) [] (warning_at item.name.span UNREAD_ON_UNNAMED.now ∷ [])
unread _ item = []

-- of an item by each rule that it falls under, in order, and where none is read
abbrev pub warnings_of_item : Place → SerdeItem → List WarningItem
warnings_of_item place item = flat_map (warned_by place item) rules ++ unread place item

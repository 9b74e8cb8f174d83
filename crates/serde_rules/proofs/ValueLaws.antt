-- What items say of a field or a variant, with one item more.
use Rattle.std.proofs.Common.{◌≡◌, ℕ, List, [], ◌∷◌, ◌++◌, Bool, false, ◌||◌, Option, Some, None, refl, ap, sym, ◌∙◌, codes}
use Rattle.std.specs.Option.{option_or, option_map_or}
use Rattle.attributes.specs.declared.serde_item.SerdeItem.{SerdeItem}
use Rattle.serde_rules.specs.declared.value.SerdeValue.{SerdeValue}
use Rattle.serde_rules.specs.Items.{is_named, text_for, last_text}
use Rattle.serde_rules.specs.Value.{is_skipping, is_double_option, value_rules}
use Rattle.serde_rules.proofs.ItemLaws.{any_more, last_more}

abbrev pub value_after : SerdeValue → SerdeItem → SerdeValue
value_after rules item = record {
  skip = rules.skip || is_skipping item;
  rename = option_or (text_for (codes "rename") item) rules.rename;
  default = rules.default || is_named (codes "default") item;
  flatten = rules.flatten || is_named (codes "flatten") item;
  skip_serializing_if = rules.skip_serializing_if || is_named (codes "skip_serializing_if") item;
  double_option = option_map_or is_double_option (text_for (codes "with") item) rules.double_option;
}

map_or-or : (f : List ℕ → Bool) (q o : Option (List ℕ)) → option_map_or f (option_or q o) false ≡ option_map_or f q (option_map_or f o false)
map_or-or f None o = refl
map_or-or f (Some x) o = refl

abbrev pub value : Bool → Option (List ℕ) → Bool → Bool → Bool → Bool → SerdeValue
value a b c d e f = record { skip = a; rename = b; default = c; flatten = d; skip_serializing_if = e; double_option = f }

same_value : (a s : Bool) (b t : Option (List ℕ)) (c u d v e w f x : Bool) → a ≡ s → b ≡ t → c ≡ u → d ≡ v → e ≡ w → f ≡ x → value a b c d e f ≡ value s t u v w x
same_value a s b t c u d v e w f x h i j k l m = cc

pub value_more : (before : List SerdeItem) (item : SerdeItem) → value_rules (before ++ item ∷ []) ≡ value_after (value_rules before) item
value_more before item =
    same_value _ _ _ _ _ _ _ _ _ _ _ _
    (any_more is_skipping before item)
    (last_more (codes "rename") before item)
    (any_more (is_named (codes "default")) before item)
    (any_more (is_named (codes "flatten")) before item)
    (any_more (is_named (codes "skip_serializing_if")) before item)
    (ap (λ o. option_map_or is_double_option o false) (last_more (codes "with") before item) ∙ map_or-or is_double_option (text_for (codes "with") item) (last_text (codes "with") before))

-- what items say, and one item more
pub value_next : (rules : SerdeValue) (before : List SerdeItem) (item : SerdeItem) (a : Bool) (b : Option (List ℕ)) (c d e f : Bool) → a ≡ (rules.skip || is_skipping item) → b ≡ option_or (text_for (codes "rename") item) rules.rename
    → c ≡ (rules.default || is_named (codes "default") item) → d ≡ (rules.flatten || is_named (codes "flatten") item) → e ≡ (rules.skip_serializing_if || is_named (codes "skip_serializing_if") item)
    → f ≡ option_map_or is_double_option (text_for (codes "with") item) rules.double_option → rules ≡ value_rules before → value a b c d e f ≡ value_rules (before ++ item ∷ [])
value_next rules before item a b c d e f g h i j k l is = same_value _ _ _ _ _ _ _ _ _ _ _ _ g h i j k l ∙ ap (λ v. value_after v item) is ∙ sym (value_more before item)

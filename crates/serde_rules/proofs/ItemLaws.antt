-- What one item more says.
use Rattle.std.proofs.Common.{◌≡◌, ℕ, List, [], ◌∷◌, ◌++◌, Bool, ◌||◌, ◌&&◌, Option, Some, None, refl, ap, sym, ◌∙◌, ◌<◌, ◌≤◌, ◌+◌, length, take, get_or, append_assoc}
use Rattle.std.specs.List.{list_any, list_all, filter_map, cons_option, last_or}
use Rattle.std.specs.Option.{option_or}
use Rattle.std.proofs.Math.Bool.{or-false, and-true}
use Rattle.std.proofs.lemmas.List.{take_more, take_all}
use Rattle.std.proofs.lemmas.List.Folds.{list_any-append, list_all-append}
use Rattle.std.proofs.lemmas.List.Elements.{filter_map-append}
use Rattle.std.proofs.lemmas.Grind.{flat_map-append}
use Rattle.attributes.specs.Attributes.{AttributeItem, serde_items}
use Rattle.attributes.specs.declared.serde_item.SerdeItem.{SerdeItem}
use Rattle.serde_rules.specs.Items.{text_for, last_text}

pub any_more : {A : Type 0} (p : A → Bool) (before : List A) (x : A) → list_any p (before ++ x ∷ []) ≡ (list_any p before || p x)
any_more p before x = list_any-append p before (x ∷ []) ∙ ap (λ b. list_any p before || b) (or-false (p x))

pub all_more : {A : Type 0} (p : A → Bool) (before : List A) (x : A) → list_all p (before ++ x ∷ []) ≡ (list_all p before && p x)
all_more p before x = list_all-append p before (x ∷ []) ∙ ap (λ b. list_all p before && b) (and-true (p x))

last_or-append : {A : Type 0} (o : Option A) (xs ys : List A) → last_or o (xs ++ ys) ≡ last_or (last_or o xs) ys
last_or-append o [] ys = refl
last_or-append o (x ∷ xs) ys = last_or-append (Some x) xs ys

last_or-option : {A : Type 0} (o q : Option A) → last_or o (cons_option q []) ≡ option_or q o
last_or-option o None = refl
last_or-option o (Some x) = refl

pub last_more : (name : List ℕ) (before : List SerdeItem) (item : SerdeItem) → last_text name (before ++ item ∷ []) ≡ option_or (text_for name item) (last_text name before)
last_more name before item =
    ap (last_or None) (filter_map-append (text_for name) before (item ∷ []))
    ∙ last_or-append None (filter_map (text_for name) before) (filter_map (text_for name) (item ∷ []))
    ∙ last_or-option (last_text name before) (text_for name item)

pub last_counts : (name text : List ℕ) (before : List SerdeItem) (item : SerdeItem) → text_for name item ≡ Some text → last_text name (before ++ item ∷ []) ≡ Some text
last_counts name text before item e = last_more name before item ∙ ap (λ o. option_or o (last_text name before)) e

-- the items before, and those up to a place and one more
pub one_more : (before items : List SerdeItem) (i : ℕ) (item : SerdeItem) → i < length items → item ≡ get_or items i item → (before ++ take i items) ++ item ∷ [] ≡ before ++ take (i + 1) items
one_more before items i item l at = append_assoc before (take i items) (item ∷ []) ∙ ap (λ xs. before ++ xs) (ap (λ x. take i items ++ x ∷ []) at ∙ sym (take_more items i item l))

pub no_more : (before items : List SerdeItem) (i : ℕ) → length items ≤ i → before ++ take i items ≡ before ++ items
no_more before items i ended = ap (λ xs. before ++ xs) (take_all i items ended)

pub items_joined : (one other : List AttributeItem) → serde_items (one ++ other) ≡ serde_items one ++ serde_items other
items_joined one other = flat_map-append (λ (a : AttributeItem). a.items) one other

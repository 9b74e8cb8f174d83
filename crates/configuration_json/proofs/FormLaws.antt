-- Rows of lists that grow at their end, and values by their kinds.
use Rattle.std.proofs.Common.{◌≡◌, ◌<◌, ◌≤◌, ◌+◌, ◌↔◌, ℕ, zero, suc, List, [], ◌∷◌, ◌++◌, Bool, Option, Some, None, IsTrue, length, take, get_or, bytes_eq, refl, subst, sym, ◌∙◌, arith}
use Rattle.std.specs.List.{list_any, list_all}
use Rattle.std.proofs.lemmas.List.{take_more}
use Rattle.serde_json.specs.Data.{Data, null, boolean, number, string, array, object, Items, no_items, Members, no_members}
use Rattle.serde_json.specs.Find.{as_array, as_object}
use Rattle.serde_json.specs.View.{view, items_view, members_view}
use Rattle.serde_json.specs.declared.value.Value.{Value}
use Rattle.serde_json.proofs.Views.{Entry}
use Rattle.diag.specs.declared.rename_row.RenameRow.{RenameRow}
use Rattle.configuration_json.specs.Form.{names_of, IsObjectOf, SaysOrDefault, IsWhole, IsRow, AreRows}

-- ---- rows

rows_push : (values : List Value) (rows : List RenameRow) (value : Value) (row : RenameRow) → AreRows (items_view values) rows → IsRow (view value) row → AreRows (items_view (values ++ value ∷ [])) (rows ++ row ∷ [])
rows_push [] [] value row before here = (here, tt)
rows_push [] (r ∷ rows) value row before here = absurd before
rows_push (v ∷ values) [] value row before here = absurd before
rows_push (v ∷ values) (r ∷ rows) value row before here = (before.0, rows_push values rows value row before.1 here)

-- the rows of one item more
pub rows_more : (values : List Value) (at : ℕ) (rows : List RenameRow) (d : Value) (row : RenameRow) → at < length values → AreRows (items_view (take at values)) rows → IsRow (view (get_or values at d)) row →
    AreRows (items_view (take (at + 1) values)) (rows ++ row ∷ [])
rows_more values at rows d row l before here =
    subst (λ vs. AreRows (items_view vs) (rows ++ row ∷ [])) (sym (take_more values at d l)) (rows_push (take at values) rows (get_or values at d) row before here)

-- where one of the values says no row, all say no rows
pub none_at : (values : List Value) (at : ℕ) (d : Value) → at < length values → ((row : RenameRow) → IsRow (view (get_or values at d)) row → ⊥) → (rows : List RenameRow) → AreRows (items_view values) rows → ⊥
none_at [] at d l none rows h = absurd (omega arith)
none_at (v ∷ values) at d l none [] h = h
none_at (v ∷ values) zero d l none (r ∷ rows) h = none r h.0
none_at (v ∷ values) (suc at) d l none (r ∷ rows) h = none_at values at d (omega arith) none rows h.1

-- ---- kinds of values

pub is_array : (d : Data) (items : Items) → as_array d ≡ Some items → d ≡ array items
is_array null items e = cc
is_array (boolean b) items e = cc
is_array (number n) items e = cc
is_array (string s) items e = cc
is_array (array ds) items e = cc
is_array (object ms) items e = cc

pub is_object : (d : Data) (ms : Members) → as_object d ≡ Some ms → d ≡ object ms
is_object null ms e = cc
is_object (boolean b) ms e = cc
is_object (number n) ms e = cc
is_object (string s) ms e = cc
is_object (array ds) ms e = cc
is_object (object ns) ms e = cc

pub empty_items : (d : Data) (values : List Value) (b : Bool) (n : ℕ) → d ≡ array (items_view values) → n ≡ length values → IsTrue b ↔ (n ≡ 0) → IsTrue b ↔ (d ≡ array no_items)
empty_items d [] b n is same h = (λ _. is, λ _. h.1 same)
empty_items d (v ∷ values) b n is same h = (λ t. let z : n ≡ 0 = h.0 t in absurd (omega arith), λ e. cc)

pub empty_members : (d : Data) (entries : List Entry) (b : Bool) (n : ℕ) → d ≡ object (members_view entries) → n ≡ length entries → IsTrue b ↔ (n ≡ 0) → IsTrue b ↔ (d ≡ object no_members)
empty_members d [] b n is same h = (λ _. is, λ _. h.1 same)
empty_members d (v ∷ entries) b n is same h = (λ t. let z : n ≡ 0 = h.0 t in absurd (omega arith), λ e. cc)

pub object_of : (names : List (List ℕ)) (d : Data) (ms : Members) (b : Bool) → d ≡ object ms → b ≡ list_all (λ name. list_any (bytes_eq name) names) (names_of ms) → IsTrue b ↔ IsObjectOf names d
object_of names d ms b is all = subst (λ e. IsTrue b ↔ IsObjectOf names e) (sym is) (λ t. sym all ∙ t, λ t. all ∙ t)

-- a whole number that is given, or is the default, is within its bounds where the default is
pub whole_within : (least most default : ℕ) (o : Option Data) (n : ℕ) → least ≤ default → default ≤ most → SaysOrDefault (IsWhole least most) default o n → (least ≤ n) × (n ≤ most)
whole_within least most default None n low high is = (omega arith, omega arith)
whole_within least most default (Some d) n low high is = (is.1, is.2)

-- a whole number of which there is one alone is this
pub only_whole : (n m : ℕ) (o : Option Data) → SaysOrDefault (IsWhole n n) n o m → SaysOrDefault (IsWhole n n) n o n
only_whole n m None is = refl
only_whole n m (Some d) is = let same : m ≡ n = omega (arith, is.1, is.2) in subst (λ k. IsWhole n n d k) same is

-- What serde_json holds without floats stands for a value that it can hold.
use Rattle.std.proofs.Common.{◌≡◌, ◌<◌, ◌^◌, ◌⊎◌, inl, inr, arith, rules, ℕ, ℤ, Bool as Truth, pos, negsuc, List, [], ◌∷◌, Some, None, true, String, Global, string_bytes, string_cmp, Less, refl, ap, ap₂, sym, subst, ◌∙◌}
use Rattle.std.specs.Int.{w64}
use Rattle.std.specs.Prelude.{FitsSigned}
use Rattle.std.specs.List.{AllByRecursion}
use Rattle.std.specs.List.Sorted.{IsStrictlySortedBy}
use Rattle.std.specs.Map.{keys_of}
use Rattle.std.specs.Ordering.{nat_cmp}
use Rattle.std.specs.Cmp.Lexicographic.{slice_cmp}
use Rattle.std.proofs.lemmas.Bool.{ltb-true}
use Rattle.std.proofs.lemmas.Option.{none-some}
use Rattle.serde_json.specs.Data.{Num, unsigned, negative, float, Data, number as d_number, array, object, Items as DataItems, no_items as no_data, item as data_item, Members as DataMembers, no_members as no_entries, member as entry}
use Rattle.serde_json.specs.Find.{as_i64, as_u64}
use Rattle.serde_json.specs.Number.{num_of, is_valid}
use Rattle.serde_json.specs.View.{view, members_view}
use Rattle.serde_json.specs.declared.number.N.{N}
use Rattle.serde_json.specs.declared.number.N.TheVariants.{PosInt, NegInt, Float}
use Rattle.serde_json.specs.declared.value.Value.{Value, Null, Bool, String as Words, the_lemmas}
use Rattle.acceptance.specs.Json.{null, boolean, number, text, list, map, no_items, item, Members, no_members, member, entries, names}
use Rattle.acceptance.specs.Data.{data_of, json_of, members_data}
use Rattle.schema_trees.specs.Held.{IsInOrder, IsHeld, MembersHaveShortNumbers, MembersHaveNamesInOrder, HoldsNumber, HoldsValue, HoldsItems, HoldsMembers}
use Rattle.schema_trees.proofs.Laws.{read-data}

-- ---- what a value stands for

pub seen : (d : Data) → HoldsValue d → d ≡ data_of (json_of d)
seen d (x, held, is) = is ∙ ap data_of (sym (read-data x)) ∙ ap (λ e. data_of (json_of e)) (sym is)

pub is_held : (d : Data) → HoldsValue d → IsHeld (json_of d)
is_held d (x, held, is) = subst IsHeld (sym (ap json_of is ∙ read-data x)) held

-- ---- numbers

pub unsigned_held : (x : Num) (n : ℕ) → as_u64 x ≡ Some n → n < 2 ^ 64 → HoldsNumber x
unsigned_held (unsigned m) n is fits = let same : m ≡ n = cc in (pos m, (omega arith), refl)
unsigned_held (negative z) n is fits = absurd (none-some n is)
unsigned_held (float f) n is fits = absurd (none-some n is)

pub signed_held : (x : N) (z : ℤ) → is_valid x ≡ true → as_u64 (num_of x) ≡ None → as_i64 (num_of x) ≡ Some z → FitsSigned w64 z → HoldsNumber (num_of x)
signed_held (PosInt m) z valid none is fits = absurd (none-some m (sym none))
signed_held (NegInt (pos m)) z valid none is fits = let below : m < 0 = ltb-true m 0 valid in absurd (omega arith)
signed_held (NegInt (negsuc m)) z valid none is fits =
    let same : z ≡ negsuc m = cc in
    let held : FitsSigned w64 (negsuc m) = subst (FitsSigned w64) same fits in
    (negsuc m, held.sfits, refl)
signed_held (Float f) z valid none is fits = absurd (none-some z is)

-- ---- values of one kind

pub of_number : (n : Num) → HoldsNumber n → HoldsValue (d_number n)
of_number n (z, short, is) = (number z, (short, tt), ap d_number is)

pub of_items : (ds : DataItems) → HoldsItems ds → HoldsValue (array ds)
of_items ds (xs, held, is) = (list xs, held, ap array is)

pub of_members : (ds : DataMembers) → HoldsMembers ds → HoldsValue (object ds)
of_members ds (ms, held, is) = (map ms, held, ap object is)

-- a value of one of these kinds
pub one_word : (v : Value) → (v ≡ Null) ⊎ ((b : Truth) × (v ≡ Bool b)) ⊎ ((s : String Global) × (v ≡ Words s)) → HoldsValue (view v)
one_word v (inl is) = (null, (tt, tt), ap view is ∙ search (rules, the_lemmas))
one_word v (inr (inl (b, is))) = (boolean b, (tt, tt), ap view is ∙ search (rules, the_lemmas))
one_word v (inr (inr (s, is))) = (text (string_bytes s), (tt, tt), ap view is ∙ search (rules, the_lemmas))

-- ---- lists and maps, one by one

pub no_items_held : HoldsItems no_data
no_items_held = (no_items, (tt, tt), refl)

pub one_item : (d : Data) (ds : DataItems) → HoldsValue d → HoldsItems ds → HoldsItems (data_item d ds)
one_item d ds (x, held, is) (xs, are_held, are) = (item x xs, ((held.0, are_held.0), (held.1, are_held.1)), ap₂ data_item is are)

-- members whose values are held
abbrev pub HoldsValues : DataMembers → Type 0
HoldsValues ds = (ms : Members) × (MembersHaveShortNumbers ms × MembersHaveNamesInOrder ms) × (ds ≡ members_data ms)

pub no_values_held : HoldsValues no_entries
no_values_held = (no_members, (tt, tt), refl)

pub one_value : (k : List ℕ) (d : Data) (ds : DataMembers) → HoldsValue d → HoldsValues ds → HoldsValues (entry k d ds)
one_value k d ds (x, held, is) (ms, are_held, are) = (member k x ms, ((held.0, are_held.0), (held.1, are_held.1)), ap₂ (entry k) is are)

abbrev Entry : Type 0
Entry = String Global × Value

below_all : (k : List ℕ) (es : List Entry) (ms : Members) → members_view es ≡ members_data ms → AllByRecursion (λ y. slice_cmp nat_cmp k (string_bytes y) ≡ Less) (keys_of es) → AllByRecursion (λ n. slice_cmp nat_cmp k n ≡ Less) (names (entries ms))
below_all k [] no_members is below = tt
below_all k [] (member l x ms) is below = absurd (cc)
below_all k (e ∷ es) no_members is below = absurd (cc)
below_all k (e ∷ es) (member l x ms) is below =
    let name : string_bytes e.0 ≡ l = cc in
    let rest : members_view es ≡ members_data ms = cc in
    (subst (λ n. slice_cmp nat_cmp k n ≡ Less) name below.0, below_all k es ms rest below.1)

names_in_order : (es : List Entry) (ms : Members) → members_view es ≡ members_data ms → IsStrictlySortedBy string_cmp (keys_of es) → IsInOrder (names (entries ms))
unfolding IsStrictlySortedBy
names_in_order [] no_members is order = tt
names_in_order [] (member l x ms) is order = absurd (cc)
names_in_order (e ∷ es) no_members is order = absurd (cc)
names_in_order (e ∷ es) (member l x ms) is order =
    let name : string_bytes e.0 ≡ l = cc in
    let rest : members_view es ≡ members_data ms = cc in
    (subst (λ k. AllByRecursion (λ n. slice_cmp nat_cmp k n ≡ Less) (names (entries ms))) name (below_all (string_bytes e.0) es ms rest order.0), names_in_order es ms rest order.1)

-- a map keeps its names in order
pub in_order : (es : List Entry) → IsStrictlySortedBy string_cmp (keys_of es) → HoldsValues (members_view es) → HoldsMembers (members_view es)
in_order es order (ms, held, is) = (ms, (held.0, (names_in_order es ms is order, held.1)), is)

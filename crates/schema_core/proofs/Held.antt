-- Maps and lists that are made one by one are values that serde_json can hold, where each value in them is one.
use Rattle.std.proofs.Common.{ℕ, List, [], ◌∷◌, codes, Option, Some, None, IfSome, map as map_list, Ordering, Less, Equal, Greater, ◌≡◌, refl}
use Rattle.std.specs.List.{AllByRecursion}
use Rattle.std.specs.List.Sorted.{IsStrictlySortedBy}
use Rattle.std.specs.Ordering.{match_ordering}
use Rattle.std.proofs.lemmas.Cmp.{nat_list_cmp_total}
use Rattle.acceptance.specs.Json.{Json, list, map, Members, no_members, member, entries, names, put, put_all, map_of}
use Rattle.schema_trees.specs.Held.{IsInOrder, MembersHaveShortNumbers, MembersHaveNamesInOrder, IsHeld}
use Rattle.schema_core.specs.declared.alternatives.Alternatives.{Alternatives}
use Rattle.schema_core.specs.Document.{Entry, entry_form, document_by}
use Rattle.schema_core.specs.Form.{texts_form, put_fields, fields_form, form_by}
use Rattle.schema_core.proofs.EntryLaws.{compare, reversed, in_order-none}

-- each value of the members can be held
abbrev pub AreValuesHeld : Members → Type 0
AreValuesHeld ms = MembersHaveShortNumbers ms × MembersHaveNamesInOrder ms

-- ---- a member more

-- the name is below all of them
abbrev IsBelow : List ℕ → List (List ℕ) → Type 0
IsBelow k ns = AllByRecursion (λ n. compare k n ≡ Less) ns

below_all : (k l : List ℕ) (ns : List (List ℕ)) → compare k l ≡ Less → IsBelow l ns → IsBelow k ns
below_all k l [] e h = tt
below_all k l (n ∷ ns) e h = (nat_list_cmp_total.trans k l n e h.0, below_all k l ns e h.1)

below_put : (l k : List ℕ) (x : Json) (ms : Members) → compare l k ≡ Less → IsBelow l (names (entries ms)) → IsBelow l (names (entries (put k x ms)))
below_put l k x no_members e h = (e, tt)
below_put l k x (member m y ms) e h = by (compare k m) (below_put l k x ms e h.1)
  where
    by : (o : Ordering) → IsBelow l (names (entries (put k x ms))) → IsBelow l (names (entries (match_ordering o (member k x (member m y ms)) (member m x ms) (member m y (put k x ms)))))
    by Less more = (e, h)
    by Equal more = h
    by Greater more = (h.0, more)

below_of : (k l : List ℕ) → compare k l ≡ Greater → compare l k ≡ Less
below_of k l e = reversed k l Greater e

put_in_order : (k : List ℕ) (x : Json) (ms : Members) → IsInOrder (names (entries ms)) → IsInOrder (names (entries (put k x ms)))
unfolding IsStrictlySortedBy
put_in_order k x no_members h = (tt, tt)
put_in_order k x (member l y ms) h = by (compare k l) refl (put_in_order k x ms h.1)
  where
    by : (o : Ordering) → compare k l ≡ o → IsInOrder (names (entries (put k x ms))) → IsInOrder (names (entries (match_ordering o (member k x (member l y ms)) (member l x ms) (member l y (put k x ms)))))
    by Less e more = ((e, below_all k l (names (entries ms)) e h.0), h)
    by Equal e more = h
    by Greater e more = (below_put l k x ms (below_of k l e) h.0, more)

put_values : (k : List ℕ) (x : Json) (ms : Members) → IsHeld x → AreValuesHeld ms → AreValuesHeld (put k x ms)
put_values k x no_members h m = ((h.0, tt), (h.1, tt))
put_values k x (member l y ms) h m = by (compare k l) (put_values k x ms h (m.0.1, m.1.1))
  where
    by : (o : Ordering) → AreValuesHeld (put k x ms) → AreValuesHeld (match_ordering o (member k x (member l y ms)) (member l x ms) (member l y (put k x ms)))
    by Less more = ((h.0, m.0), (h.1, m.1))
    by Equal more = ((h.0, m.0.1), (h.1, m.1.1))
    by Greater more = ((m.0.0, more.0), (m.1.0, more.1))

put_held : (k : List ℕ) (x : Json) (ms : Members) → IsHeld x → IsHeld (map ms) → IsHeld (map (put k x ms))
put_held k x ms h m = let values = put_values k x ms h (m.0, m.1.1) in (values.0, (put_in_order k x ms m.1.0, values.1))

no_members_held : IsHeld (map no_members)
no_members_held = (tt, (in_order-none, tt))

-- ---- maps

put_all_in_order : (es : List (List ℕ × Json)) (ms : Members) → IsInOrder (names (entries ms)) → IsInOrder (names (entries (put_all es ms)))
put_all_in_order [] ms h = h
put_all_in_order (e ∷ es) ms h = put_all_in_order es (put e.0 e.1 ms) (put_in_order e.0 e.1 ms h)

-- a map of entries, where each value that is in it at the end can be held
pub values_held : (es : List (List ℕ × Json)) → AreValuesHeld (put_all es no_members) → IsHeld (map_of es)
values_held es h = (h.0, (put_all_in_order es no_members in_order-none, h.1))

put_all_held : (es : List (List ℕ × Json)) (ms : Members) → AllByRecursion (λ e. IsHeld e.1) es → IsHeld (map ms) → IsHeld (map (put_all es ms))
put_all_held [] ms h m = m
put_all_held (e ∷ es) ms h m = put_all_held es (put e.0 e.1 ms) h.1 (put_held e.0 e.1 ms h.0 m)

map_of_held : (es : List (List ℕ × Json)) → AllByRecursion (λ e. IsHeld e.1) es → IsHeld (map_of es)
map_of_held es h = put_all_held es no_members h no_members_held

put_fields_held : (fs : List (List ℕ × Option Json)) (ms : Members) → AllByRecursion (λ f. IfSome f.1 IsHeld) fs → IsHeld (map ms) → IsHeld (map (put_fields fs ms))
put_fields_held [] ms h m = m
put_fields_held ((k, None) ∷ fs) ms h m = put_fields_held fs ms h.1 m
put_fields_held ((k, Some x) ∷ fs) ms h m = put_fields_held fs (put k x ms) h.1 (put_held k x ms h.0 m)

pub fields_held : (fs : List (List ℕ × Option Json)) → AllByRecursion (λ f. IfSome f.1 IsHeld) fs → IsHeld (fields_form fs)
fields_held fs h = put_fields_held fs no_members h no_members_held

-- ---- lists

pub texts_held : (ks : List (List ℕ)) → IsHeld (list (texts_form ks))
texts_held [] = (tt, tt)
texts_held (k ∷ ks) = let rest = texts_held ks in ((tt, rest.0), (tt, rest.1))

-- ---- documents

forms_held : (by : Alternatives) (es : List Entry) → AllByRecursion (λ e. IsHeld (form_by by e.1)) es → AllByRecursion (λ e. IsHeld e.1) (map_list (entry_form by) es)
forms_held by [] h = tt
forms_held by (e ∷ es) h = (h.0, forms_held by es h.1)

one_held : (k : List ℕ) (x : Json) → IsHeld x → IsHeld (map_of ((k, x) ∷ []))
one_held k x h = map_of_held ((k, x) ∷ []) (h, tt)

pub document_held : (by : Alternatives) (es : List Entry) → AllByRecursion (λ e. IsHeld (form_by by e.1)) es → IsHeld (document_by by es)
document_held by es h =
    let schemas = map_of (map_list (entry_form by) es) in
    one_held (codes "components") (map_of ((codes "schemas", schemas) ∷ [])) (one_held (codes "schemas") schemas (map_of_held (map_list (entry_form by) es) (forms_held by es h)))

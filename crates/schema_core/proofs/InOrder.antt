-- Members that are put in the order of their names.
use Rattle.std.proofs.Common.{ℕ, List, [], ◌∷◌, ◌++◌, ◌≡◌, refl, ap, sym, ◌∙◌, map, Less}
use Rattle.std.specs.Ordering.{match_ordering}
use Rattle.std.specs.List.{AllByRecursion}
use Rattle.std.specs.List.Sorted.{IsStrictlySortedBy}
use Rattle.std.proofs.lemmas.List.{append-nil, append_assoc}
use Rattle.acceptance.specs.Json.{Json, Members, no_members, member, entries, put, put_all}
use Rattle.schema_core.specs.declared.alternatives.Alternatives.{Alternatives}
use Rattle.schema_core.specs.Document.{Entry, entry_form}
use Rattle.schema_core.specs.Entries.{entry_names, IsInOrder}
use Rattle.schema_core.specs.Meaning.{DocumentsAreInOrder}
use Rattle.schema_core.proofs.EntryLaws.{compare, reversed}

abbrev pub members_of : List (List ℕ × Json) → Members
members_of [] = no_members
members_of (b ∷ bs) = member b.0 b.1 (members_of bs)

pub entries-members_of : (bs : List (List ℕ × Json)) → entries (members_of bs) ≡ bs
entries-members_of [] = refl
entries-members_of (b ∷ bs) = ap (λ cs. b ∷ cs) (entries-members_of bs)

pub members_of-entries : (ms : Members) → members_of (entries ms) ≡ ms
members_of-entries no_members = refl
members_of-entries (member k x ms) = ap (member k x) (members_of-entries ms)

-- the name stands behind all of them
abbrev pub IsBehind : List (List ℕ × Json) → List ℕ → Type 0
IsBehind [] k = Unit {0}
IsBehind (b ∷ bs) k = (compare b.0 k ≡ Less) × IsBehind bs k

pub put_last : (bs : List (List ℕ × Json)) (k : List ℕ) (x : Json) → IsBehind bs k → put k x (members_of bs) ≡ members_of (bs ++ (k, x) ∷ [])
put_last [] k x h = refl
put_last (b ∷ bs) k x h =
    let ms = members_of bs in
    ap (λ o. match_ordering o (member k x (member b.0 b.1 ms)) (member b.0 x ms) (member b.0 b.1 (put k x ms))) (reversed b.0 k Less h.0)
    ∙ ap (member b.0 b.1) (put_last bs k x h.1)

behind_more : (bs : List (List ℕ × Json)) (b : List ℕ × Json) (k : List ℕ) → IsBehind bs k → compare b.0 k ≡ Less → IsBehind (bs ++ b ∷ []) k
behind_more [] b k h l = (l, tt)
behind_more (c ∷ bs) b k h l = (h.0, behind_more bs b k h.1 l)

pub all_more : (bs : List (List ℕ × Json)) (b : List ℕ × Json) (ks : List (List ℕ)) → AllByRecursion (IsBehind bs) ks → AllByRecursion (λ k. compare b.0 k ≡ Less) ks → AllByRecursion (IsBehind (bs ++ b ∷ [])) ks
all_more bs b [] h o = tt
all_more bs b (k ∷ ks) h o = (behind_more bs b k h.0 o.0, all_more bs b ks h.1 o.1)

pub behind_none : (ks : List (List ℕ)) → AllByRecursion (IsBehind []) ks
behind_none [] = tt
behind_none (k ∷ ks) = (tt, behind_none ks)

put_in_order : (by : Alternatives) (bs : List (List ℕ × Json)) (es : List Entry) → AllByRecursion (IsBehind bs) (entry_names es) → IsInOrder (entry_names es) → put_all (map (entry_form by) es) (members_of bs) ≡ members_of (bs ++ map (entry_form by) es)
unfolding IsStrictlySortedBy
put_in_order by bs [] h o = ap members_of (sym (append-nil bs))
put_in_order by bs (e ∷ es) h o =
    ap (put_all (map (entry_form by) es)) (put_last bs e.0 (form_of e) h.0)
    ∙ put_in_order by (bs ++ entry_form by e ∷ []) es (all_more bs (entry_form by e) (entry_names es) h.1 o.0) o.1
    ∙ ap members_of (append_assoc bs (entry_form by e ∷ []) (map (entry_form by) es))
  where
    form_of : Entry → Json
    form_of e = (entry_form by e).1

pub forms_in_order : (by : Alternatives) (es : List Entry) → IsInOrder (entry_names es) → put_all (map (entry_form by) es) no_members ≡ members_of (map (entry_form by) es)
forms_in_order by es o = put_in_order by [] es (behind_none (entry_names es)) o

pub entries_in_order : DocumentsAreInOrder
entries_in_order by es o = ap entries (forms_in_order by es o) ∙ entries-members_of (map (entry_form by) es)

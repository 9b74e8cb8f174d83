-- The first difference of members from texts, in byte order of names.
use Rattle.std.proofs.Common.{◌≡◌, ℕ, List, [], ◌∷◌, false, Option, Some, None, IsSome, Less, Equal, string_bytes, nat_cmp, refl, sym, ap, ◌∙◌, subst}
use Rattle.std.specs.List.{AllByRecursion}
use Rattle.std.specs.List.Sorted.{IsStrictlySortedBy}
use Rattle.std.specs.Cmp.Lexicographic.{slice_cmp}
use Rattle.std.specs.Map.{keys_of}
use Rattle.std.proofs.lemmas.Cmp.{nat_list_cmp_total}
use Rattle.serde_json.specs.Data.{Data, Members, no_members, member}
use Rattle.serde_json.specs.Find.{get_member}
use Rattle.serde_json.specs.View.{view, members_view}
use Rattle.serde_json.proofs.Views.{Entry}
use Rattle.documents.proofs.DifferenceLaws.{AreOrdered, IsBefore, Finds, earlier_still, before_first, nothing_at, nothing_later, here, same_nothing, another_at, finds_more}
use Rattle.documents.proofs.Names.{itself, same_names}
use Rattle.documents.proofs.TextsOf.{Texts, First, first_of}
use Rattle.documents.specs.Text.{IsJsonOf}
use Rattle.documents.specs.Written.{AreTextsOf, AreNamedInOrder}
use Rattle.documents.specs.Difference.{AreAlike, AreOthers, IsSame, AtName}
use Rattle.documents.specs.declared.comparing.Difference.{Difference}
use Rattle.documents.specs.declared.comparing.Difference.TheVariants.{Missing, Surplus, Another}

-- what comparing the members with the texts finds
abbrev pub FindsText : List Entry → Texts → Option Difference → Type 0
FindsText olds news found = (values : Members) → AreTextsOf values news → AreNamedInOrder news → Finds (members_view olds) values found

-- ---- names below those of texts

-- the name comes before each of the texts
abbrev pub IsBeforeTexts : List ℕ → Texts → Type 0
IsBeforeTexts name ts = AllByRecursion (λ k. slice_cmp nat_cmp name k ≡ Less) (keys_of ts)

still_earlier : (q name : List ℕ) (ts : Texts) → slice_cmp nat_cmp q name ≡ Less → IsBeforeTexts name ts → IsBeforeTexts q ts
still_earlier q name [] less h = tt
still_earlier q name (t ∷ ts) less h = (nat_list_cmp_total.trans q name t.0 less h.0, still_earlier q name ts less h.1)

before_text : (q : List ℕ) (t : List ℕ × List ℕ) (ts : Texts) → AreNamedInOrder (t ∷ ts) → slice_cmp nat_cmp q t.0 ≡ Less → IsBeforeTexts q (t ∷ ts)
unfolding IsStrictlySortedBy
before_text q t ts ordered less = (less, still_earlier q t.0 ts less ordered.0)

later_texts : (t : List ℕ × List ℕ) (ts : Texts) → AreNamedInOrder (t ∷ ts) → IsBeforeTexts t.0 ts
unfolding IsStrictlySortedBy
later_texts t ts ordered = ordered.0

behind_text : (t : List ℕ × List ℕ) (ts : Texts) → AreNamedInOrder (t ∷ ts) → AreNamedInOrder ts
unfolding IsStrictlySortedBy
behind_text t ts ordered = ordered.1

no_text_at : (q : List ℕ) (values : Members) (ts : Texts) → AreTextsOf values ts → IsBeforeTexts q ts → get_member q values ≡ None
no_text_at q no_members ts h before = refl
no_text_at q (member k d ms) [] h before = absurd h
no_text_at q (member k d ms) (t ∷ ts) h before =
    let less : slice_cmp nat_cmp q k ≡ Less = subst (λ n. slice_cmp nat_cmp q n ≡ Less) h.0 before.0 in
    rw less (no_text_at q ms ts h.2 before.1)

text_here : (values : Members) (t : List ℕ × List ℕ) (ts : Texts) (f : First values t ts) → get_member t.0 values ≡ Some f.value
text_here values t ts f = ap (get_member t.0) f.all ∙ (rw (itself t.0) refl)

-- each earlier name is before the entries and before the texts
earlier_same : (name : List ℕ) (es : List Entry) (values : Members) (ts : Texts) → AreTextsOf values ts → ((q : List ℕ) → slice_cmp nat_cmp q name ≡ Less → IsBefore q es) → ((q : List ℕ) → slice_cmp nat_cmp q name ≡ Less → IsBeforeTexts q ts)
    → (q : List ℕ) → slice_cmp nat_cmp q name ≡ Less → AtName IsSame q (members_view es) values
earlier_same name es values ts t h k q less = same_nothing _ _ (nothing_at q es (h q less)) (no_text_at q values ts t (k q less))

-- ---- what is found where entries and texts begin with these

surplus_before : (e : Entry) (es : List Entry) (ts : Texts) → AreOrdered (e ∷ es) → (AreNamedInOrder ts → IsBeforeTexts (string_bytes e.0) ts) → FindsText (e ∷ es) ts (Some (Surplus (string_bytes e.0)))
surplus_before e es ts ordered before = λ values h order.
    let name = string_bytes e.0 in (
      (subst (λ o. IsSome o) (sym (here e es)) refl, no_text_at name values ts h (before order)),
      earlier_same name (e ∷ es) values ts h (λ q less. before_first q e es ordered less) (λ q less. still_earlier q name ts less (before order)),
    )

pub found_surplus : (name : List ℕ) (olds : List Entry) (news : Texts) (e : Entry) (es : List Entry) → olds ≡ e ∷ es → name ≡ string_bytes e.0 → AreOrdered olds → (AreNamedInOrder news → IsBeforeTexts (string_bytes e.0) news)
    → FindsText olds news (Some (Surplus name))
found_surplus name olds news e es is named ordered before =
    let first = surplus_before e es news (subst AreOrdered is ordered) before in
    subst (λ n. FindsText olds news (Some (Surplus n))) (sym named) (subst (λ gs. FindsText gs news (Some (Surplus (string_bytes e.0)))) (sym is) first)

missing_before : (t : List ℕ × List ℕ) (ts : Texts) (es : List Entry) → IsBefore t.0 es → FindsText es (t ∷ ts) (Some (Missing t.0))
missing_before t ts es before = λ values h order.
    let f = first_of values t ts h in (
      (nothing_at t.0 es before, subst (λ o. IsSome o) (sym (text_here values t ts f)) refl),
      earlier_same t.0 es values (t ∷ ts) h (λ q less. earlier_still q t.0 es less before) (λ q less. before_text q t ts order less),
    )

pub found_missing : (name : List ℕ) (olds : List Entry) (news : Texts) (t : List ℕ × List ℕ) (ts : Texts) → news ≡ t ∷ ts → name ≡ t.0 → IsBefore t.0 olds → FindsText olds news (Some (Missing name))
found_missing name olds news t ts is named before =
    subst (λ n. FindsText olds news (Some (Missing n))) (sym named) (subst (λ us. FindsText olds us (Some (Missing t.0))) (sym is) (missing_before t ts olds before))

another_here : (e : Entry) (es : List Entry) (t : List ℕ × List ℕ) (ts : Texts) → AreOrdered (e ∷ es) → string_bytes e.0 ≡ t.0 → ((new : Data) → IsJsonOf false new t.1 → AreOthers (view e.1) new)
    → FindsText (e ∷ es) (t ∷ ts) (Some (Another t.0))
another_here e es t ts ordered same others = λ values h order.
    let f = first_of values t ts h in
    let old = ap (λ n. get_member n (members_view (e ∷ es))) (sym same) ∙ here e es in (
      another_at _ _ (view e.1) f.value old (text_here values t ts f) (others f.value f.json),
      earlier_same t.0 (e ∷ es) values (t ∷ ts) h (λ q less. before_first q e es ordered (subst (λ n. slice_cmp nat_cmp q n ≡ Less) (sym same) less)) (λ q less. before_text q t ts order less),
    )

pub found_another : (name : List ℕ) (olds : List Entry) (news : Texts) (e : Entry) (es : List Entry) (t : List ℕ × List ℕ) (ts : Texts) → olds ≡ e ∷ es → news ≡ t ∷ ts → name ≡ t.0 → AreOrdered olds
    → slice_cmp nat_cmp (string_bytes e.0) t.0 ≡ Equal → ((new : Data) → IsJsonOf false new t.1 → AreOthers (view e.1) new) → FindsText olds news (Some (Another name))
found_another name olds news e es t ts is is_too named ordered same others =
    let first = another_here e es t ts (subst AreOrdered is ordered) (same_names (string_bytes e.0) t.0 same) others in
    subst (λ n. FindsText olds news (Some (Another n))) (sym named)
    (subst (λ gs. FindsText gs news (Some (Another t.0))) (sym is) (subst (λ us. FindsText (e ∷ es) us (Some (Another t.0))) (sym is_too) first))

finds_behind : (e : Entry) (es : List Entry) (t : List ℕ × List ℕ) (ts : Texts) → AreOrdered (e ∷ es) → string_bytes e.0 ≡ t.0 → ((new : Data) → IsJsonOf false new t.1 → AreAlike (view e.1) new)
    → (found : Option Difference) → FindsText es ts found → FindsText (e ∷ es) (t ∷ ts) found
finds_behind e es t ts ordered same alike found more = λ values h order.
    let f = first_of values t ts h in
    let name = string_bytes e.0 in
    let none = no_text_at name f.behind ts f.texts (subst (λ n. IsBeforeTexts n ts) (sym same) (later_texts t ts order)) in
    let all : Finds (members_view (e ∷ es)) (member name f.value f.behind) found =
    finds_more name (view e.1) f.value (members_view es) f.behind (nothing_later e es ordered) none (alike f.value f.json) found (more f.behind f.texts (behind_text t ts order)) in
    subst (λ ms. Finds (members_view (e ∷ es)) ms found) (ap (λ n. member n f.value f.behind) same ∙ sym f.all) all

pub found_behind : (olds : List Entry) (news : Texts) (e : Entry) (es : List Entry) (t : List ℕ × List ℕ) (ts : Texts) → olds ≡ e ∷ es → news ≡ t ∷ ts → AreOrdered olds → slice_cmp nat_cmp (string_bytes e.0) t.0 ≡ Equal
    → ((new : Data) → IsJsonOf false new t.1 → AreAlike (view e.1) new) → (found : Option Difference) → FindsText es ts found → FindsText olds news found
found_behind olds news e es t ts is is_too ordered same alike found h =
    let more = finds_behind e es t ts (subst AreOrdered is ordered) (same_names (string_bytes e.0) t.0 same) alike found h in
    subst (λ gs. FindsText gs news found) (sym is) (subst (λ us. FindsText (e ∷ es) us found) (sym is_too) more)

-- a name is before the texts that begin with a greater one, and before none
pub is_before_texts : (q : List ℕ) (all : Texts) (t : List ℕ × List ℕ) (ts : Texts) → all ≡ t ∷ ts → slice_cmp nat_cmp q t.0 ≡ Less → AreNamedInOrder all → IsBeforeTexts q all
is_before_texts q all t ts is less ordered = subst (λ us. IsBeforeTexts q us) (sym is) (before_text q t ts (subst AreNamedInOrder is ordered) less)

pub is_before_no_text : (q : List ℕ) (all : Texts) → all ≡ [] → IsBeforeTexts q all
is_before_no_text q all is = subst (λ us. IsBeforeTexts q us) (sym is) tt

nothing_in : (values : Members) → AreTextsOf values [] → Finds no_members values None
nothing_in no_members h = λ q. tt
nothing_in (member k d ms) h = absurd h

pub nothing_differs : (olds : List Entry) (news : Texts) → olds ≡ [] → news ≡ [] → FindsText olds news None
nothing_differs olds news is is_too =
    let none : FindsText [] [] None = λ values h order. nothing_in values h in
    subst (λ gs. FindsText gs news None) (sym is) (subst (λ us. FindsText [] us None) (sym is_too) none)

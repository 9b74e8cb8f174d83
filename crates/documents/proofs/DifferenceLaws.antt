-- The first difference of members in byte order of names.
use Rattle.std.proofs.Common.{◌≡◌, ℕ, List, [], ◌∷◌, false, Option, Some, None, MatchOption, Ordering, Less, Equal, Greater, string_bytes, string_cmp, nat_cmp, refl, sym, ap, ◌∙◌, subst, true≢false}
use Rattle.std.specs.List.{AllByRecursion}
use Rattle.std.specs.List.Sorted.{IsStrictlySortedBy}
use Rattle.std.specs.Cmp.Lexicographic.{slice_cmp}
use Rattle.std.specs.Ordering.{match_ordering, ordering_reverse}
use Rattle.std.specs.Map.{keys_of}
use Rattle.std.proofs.lemmas.Cmp.{nat_list_cmp_total}
use Rattle.serde_json.specs.Data.{Data, Members, member}
use Rattle.serde_json.specs.Find.{get_member}
use Rattle.serde_json.specs.Written.{has_float, compact_text}
use Rattle.serde_json.specs.View.{view, members_view}
use Rattle.serde_json.proofs.Views.{Entry}
use Rattle.documents.proofs.Names.{itself, same_names}
use Rattle.documents.specs.Difference.{AreAlike, AreOthers, IsSame, IsMissing, IsSurplus, IsAnother, AtName, IsFirst, DifferFirst, AlikeAreEqual, OthersDiffer}
use Rattle.documents.specs.declared.comparing.Difference.{Difference}
use Rattle.documents.specs.declared.comparing.Difference.TheVariants.{Missing, Surplus, Another, Elsewhere}

-- ---- names below those of entries

abbrev pub AreOrdered : List Entry → Type 0
AreOrdered es = IsStrictlySortedBy string_cmp (keys_of es)

-- the name comes before each of the entries
abbrev pub IsBefore : List ℕ → List Entry → Type 0
IsBefore name es = AllByRecursion (λ k. slice_cmp nat_cmp name (string_bytes k) ≡ Less) (keys_of es)

pub earlier_still : (q name : List ℕ) (es : List Entry) → slice_cmp nat_cmp q name ≡ Less → IsBefore name es → IsBefore q es
earlier_still q name [] less h = tt
earlier_still q name (e ∷ es) less h = (nat_list_cmp_total.trans q name (string_bytes e.0) less h.0, earlier_still q name es less h.1)

pub before_first : (q : List ℕ) (e : Entry) (es : List Entry) → AreOrdered (e ∷ es) → slice_cmp nat_cmp q (string_bytes e.0) ≡ Less → IsBefore q (e ∷ es)
unfolding IsStrictlySortedBy
before_first q e es ordered less = (less, earlier_still q (string_bytes e.0) es less ordered.0)

pub behind : (e : Entry) (es : List Entry) → AreOrdered (e ∷ es) → AreOrdered es
unfolding IsStrictlySortedBy
behind e es ordered = ordered.1

pub nothing_at : (q : List ℕ) (es : List Entry) → IsBefore q es → get_member q (members_view es) ≡ None
nothing_at q [] h = refl
nothing_at q (e ∷ es) h = rw h.0 (nothing_at q es h.1)

pub nothing_later : (e : Entry) (es : List Entry) → AreOrdered (e ∷ es) → get_member (string_bytes e.0) (members_view es) ≡ None
unfolding IsStrictlySortedBy
nothing_later e es ordered = nothing_at (string_bytes e.0) es ordered.0

pub here : (e : Entry) (es : List Entry) → get_member (string_bytes e.0) (members_view (e ∷ es)) ≡ Some (view e.1)
here e es = rw (itself (string_bytes e.0)) refl

-- ---- a difference at the first of the entries

pub same_nothing : (o p : Option Data) → o ≡ None → p ≡ None → IsSame o p
same_nothing None None h k = tt
same_nothing None (Some y) h k = cc
same_nothing (Some x) p h k = cc

pub another_at : (o p : Option Data) (x y : Data) → o ≡ Some x → p ≡ Some y → AreOthers x y → IsAnother o p
another_at o p x y h k w = subst (λ r. IsAnother r p) (sym h) (subst (λ r. IsAnother (Some x) r) (sym k) w)

-- ---- what differs behind two members of one name that are alike

-- what comparing the members finds
abbrev pub Finds : Members → Members → Option Difference → Type 0
Finds olds news found = MatchOption found ((name : List ℕ) → AtName IsSame name olds news) (DifferFirst olds news)

same_more : (q k : List ℕ) (x y : Data) (ms ns : Members) → AreAlike x y → AtName IsSame q ms ns → AtName IsSame q (member k x ms) (member k y ns)
same_more q k x y ms ns alike h = by (slice_cmp nat_cmp q k)
  where
    by : (o : Ordering) → IsSame (match_ordering o (get_member q ms) (Some x) (get_member q ms)) (match_ordering o (get_member q ns) (Some y) (get_member q ns))
    by Less = h
    by Equal = alike
    by Greater = h

first_more : (Fact : Option Data → Option Data → Type 0) (name k : List ℕ) (x y : Data) (ms ns : Members) → (Fact None None → ⊥) → get_member k ms ≡ None → get_member k ns ≡ None → AreAlike x y
    → IsFirst Fact name ms ns → IsFirst Fact name (member k x ms) (member k y ns)
first_more Fact name k x y ms ns never none none_too alike h = (by (slice_cmp nat_cmp name k) refl, λ q less. same_more q k x y ms ns alike (h.1 q less))
  where
    by : (o : Ordering) → slice_cmp nat_cmp name k ≡ o → Fact (match_ordering o (get_member name ms) (Some x) (get_member name ms)) (match_ordering o (get_member name ns) (Some y) (get_member name ns))
    by Less is = h.0
    by Equal is =
        let at : name ≡ k = same_names name k is in
        let nothing = subst (λ o. Fact o (get_member name ns)) (ap (λ n. get_member n ms) at ∙ none) h.0 in
        absurd (never (subst (λ o. Fact None o) (ap (λ n. get_member n ns) at ∙ none_too) nothing))
    by Greater is = h.0

pub finds_more : (k : List ℕ) (x y : Data) (ms ns : Members) → get_member k ms ≡ None → get_member k ns ≡ None → AreAlike x y → (found : Option Difference) → Finds ms ns found → Finds (member k x ms) (member k y ns) found
finds_more k x y ms ns none none_too alike None h = λ q. same_more q k x y ms ns alike (h q)
finds_more k x y ms ns none none_too alike (Some (Missing name)) h = first_more IsMissing name k x y ms ns (λ w. true≢false (sym w.1)) none none_too alike h
finds_more k x y ms ns none none_too alike (Some (Surplus name)) h = first_more IsSurplus name k x y ms ns (λ w. true≢false (sym w.0)) none none_too alike h
finds_more k x y ms ns none none_too alike (Some (Another name)) h = first_more IsAnother name k x y ms ns (λ w. w) none none_too alike h
finds_more k x y ms ns none none_too alike (Some Elsewhere) h = h

-- a name is before the entries that begin with a greater one, and before none
pub is_before : (q : List ℕ) (all : List Entry) (f : Entry) (fs : List Entry) → all ≡ f ∷ fs → AreOrdered all → slice_cmp nat_cmp q (string_bytes f.0) ≡ Less → IsBefore q all
is_before q all f fs is ordered less = subst (λ gs. IsBefore q gs) (sym is) (before_first q f fs (subst AreOrdered is ordered) less)

pub is_before_none : (q : List ℕ) (all : List Entry) → all ≡ [] → IsBefore q all
is_before_none q all is = subst (λ gs. IsBefore q gs) (sym is) tt

pub is_less : (k l : List ℕ) → slice_cmp nat_cmp k l ≡ Greater → slice_cmp nat_cmp l k ≡ Less
is_less k l greater = nat_list_cmp_total.antisymm l k ∙ ap ordering_reverse greater

-- ---- what the texts say of the values

some_is : (one other : Data) → Some one ≡ Some other → one ≡ other
some_is one other e = cc

pub alike_are_equal : AlikeAreEqual
alike_are_equal one other h shallow shallow_too = some_is one other (sym (h.1.reads shallow) ∙ h.2.reads shallow_too)

pub others_differ : OthersDiffer
others_differ one other h none same =
    h.4 (h.2.layout.1 none ∙ ap compact_text same ∙ sym (h.3.layout.1 (subst (λ d. has_float d ≡ false) same none)))

-- The order of suggestions, and a suggestion at its place among others.
use Rattle.std.proofs.Common.{◌≡◌, ◌∙◌, ◌+◌, ◌<◌, ◌≤◌, ℕ, Bool, true, false, List, length, get_or, ap, sym, refl, unwrap_or, position, not, subst, ◌-◌, inl, inr, arith}
use Rattle.std.specs.List.{position_or_len}
use Rattle.std.specs.List.Sorted.{IsSorted}
use Rattle.std.specs.Cmp.{IsTotalOrder, Equal-is}
use Rattle.std.specs.Cmp.Lexicographic.{slice_cmp, nat_list_cmp_total, texts_ties, bytes_decides}
use Rattle.std.specs.Ordering.{nat_cmp, is_eq, is_lt, ordering_reverse}
use Rattle.std.specs.declared.cmp.Ordering.{Ordering}
use Rattle.std.specs.declared.cmp.Ordering.TheVariants.{Less, Equal, Greater}
use Rattle.diag.specs.declared.suggestion.Suggestion.{Suggestion}
use Rattle.diag.specs.declared.suggestion.Suggestion.TheVariants.{Help, Note}
use Rattle.std.proofs.lemmas.Bool.{cases_lt}
use Rattle.std.proofs.lemmas.Bool.Decides.{nat_tests}
use Rattle.std.proofs.lemmas.List.Edits.{length-insert, get_or-insert_below, get_or-insert_at, get_or-insert_above}
use Rattle.std.proofs.lemmas.List.Sums.{prefix_len-le-length, fails_before_first, passes_at_first}
use Rattle.diag.specs.Suggestion.{suggestion_cmp, place_of, inserted}

antisymm : (one other : Suggestion) → suggestion_cmp one other ≡ ordering_reverse (suggestion_cmp other one)
antisymm (Help a) (Help b) = nat_list_cmp_total.antisymm a b
antisymm (Help a) (Note b) = refl
antisymm (Note a) (Help b) = refl
antisymm (Note a) (Note b) = nat_list_cmp_total.antisymm a b

trans : (one two three : Suggestion) → suggestion_cmp one two ≡ Less → suggestion_cmp two three ≡ Less → suggestion_cmp one three ≡ Less
trans (Help a) (Help b) (Help c) first second = nat_list_cmp_total.trans a b c first second
trans (Help a) (Help b) (Note c) first second = refl
trans (Help a) (Note b) (Help c) first second = cc
trans (Help a) (Note b) (Note c) first second = refl
trans (Note a) (Help b) (Help c) first second = cc
trans (Note a) (Help b) (Note c) first second = cc
trans (Note a) (Note b) (Help c) first second = second
trans (Note a) (Note b) (Note c) first second = nat_list_cmp_total.trans a b c first second

congr : (one two three : Suggestion) → suggestion_cmp one two ≡ Equal → suggestion_cmp one three ≡ suggestion_cmp two three
congr (Help a) (Help b) (Help c) tie = nat_list_cmp_total.congr a b c tie
congr (Help a) (Help b) (Note c) tie = refl
congr (Help a) (Note b) three tie = cc
congr (Note a) (Help b) three tie = cc
congr (Note a) (Note b) (Help c) tie = refl
congr (Note a) (Note b) (Note c) tie = nat_list_cmp_total.congr a b c tie

pub suggestion_cmp_total : IsTotalOrder suggestion_cmp
suggestion_cmp_total = record { antisymm = antisymm; trans = trans; congr = congr }

text_from_tie : (a b : List ℕ) → slice_cmp nat_cmp a b ≡ Equal → a ≡ b
text_from_tie a b tie = (bytes_decides a b).0 (texts_ties a b ∙ ap is_eq tie)

tie_from_text : (a b : List ℕ) → a ≡ b → slice_cmp nat_cmp a b ≡ Equal
tie_from_text a b same = (Equal-is (slice_cmp nat_cmp a b)).0 (sym (texts_ties a b) ∙ (bytes_decides a b).1 same)

pub same_from_tie : (one other : Suggestion) → suggestion_cmp one other ≡ Equal → one ≡ other
same_from_tie (Help a) (Help b) tie = ap (λ text. Help text) (text_from_tie a b tie)
same_from_tie (Help a) (Note b) tie = cc
same_from_tie (Note a) (Help b) tie = cc
same_from_tie (Note a) (Note b) tie = ap (λ text. Note text) (text_from_tie a b tie)

tie_itself : (one : Suggestion) → suggestion_cmp one one ≡ Equal
tie_itself (Help a) = tie_from_text a a refl
tie_itself (Note a) = tie_from_text a a refl

pub tie_from_same : (one other : Suggestion) → one ≡ other → suggestion_cmp one other ≡ Equal
tie_from_same one other same = ap (λ two. suggestion_cmp one two) (sym same) ∙ tie_itself one

-- the first place at which a test passes, or the end
pub position-or_len : (test : Suggestion → Bool) (xs : List Suggestion) → unwrap_or (position test xs) (length xs) ≡ position_or_len test xs
position-or_len test xs = let within : position_or_len test xs ≤ length xs = prefix_len-le-length (λ x. not (test x)) xs in grind (arith, nat_tests)

pub place_of-le : (one : Suggestion) (others : List Suggestion) → place_of one others ≤ length others
place_of-le one others = prefix_len-le-length (λ other. not (is_lt (suggestion_cmp one other))) others

lt-reverse : (answer : Ordering) → is_lt answer ≡ true → is_lt (ordering_reverse answer) ≡ false
lt-reverse Less lower = refl
lt-reverse Equal lower = refl
lt-reverse Greater lower = cc

not_lower : (one other : Suggestion) → is_lt (suggestion_cmp one other) ≡ true → is_lt (suggestion_cmp other one) ≡ false
not_lower one other lower = ap is_lt (antisymm other one) ∙ lt-reverse (suggestion_cmp one other) lower

-- the neighbours at a place, of which the first is no higher
abbrev InOrderAt : List Suggestion → ℕ → Suggestion → Type 0
InOrderAt xs k d = is_lt (suggestion_cmp (get_or xs (k + 1) d) (get_or xs k d)) ≡ false

-- a suggestion at its place among sorted ones: the neighbours below it, on its two sides, and above it
module _ (one : Suggestion) (others : List Suggestion) (sorted : IsSorted suggestion_cmp others) where
  in_order_below : (k : ℕ) (d : Suggestion) → k + 1 < place_of one others → InOrderAt (inserted one others) k d
  in_order_below k d below =
      let within = place_of-le one others in
      let lower = get_or-insert_below others (place_of one others) one d k (omega arith) within in
      let upper = get_or-insert_below others (place_of one others) one d (k + 1) below within in
      rw (lower, upper) (sorted k d (omega arith) (omega arith))

  in_order_before : (k : ℕ) (d : Suggestion) → k + 1 ≡ place_of one others → InOrderAt (inserted one others) k d
  in_order_before k d before =
      let within = place_of-le one others in
      let lower = get_or-insert_below others (place_of one others) one d k (omega arith) within in
      let upper : get_or (inserted one others) (k + 1) d ≡ one = ap (λ n. get_or (inserted one others) n d) before ∙ get_or-insert_at others (place_of one others) one d within in
      rw (lower, upper) (fails_before_first (λ other. is_lt (suggestion_cmp one other)) others k d (omega arith))

  in_order_at : (d : Suggestion) → place_of one others < length others → InOrderAt (inserted one others) (place_of one others) d
  in_order_at d more =
      let within = place_of-le one others in
      let lower = get_or-insert_at others (place_of one others) one d within in
      let upper = get_or-insert_above others (place_of one others) one d (place_of one others) (omega arith) within in
      rw (lower, upper) (not_lower one _ (passes_at_first (λ other. is_lt (suggestion_cmp one other)) others d more))

  in_order_above : (j : ℕ) (d : Suggestion) → place_of one others ≤ j → j + 1 < length others → InOrderAt (inserted one others) (j + 1) d
  in_order_above j d above more =
      let within = place_of-le one others in
      let lower = get_or-insert_above others (place_of one others) one d j above within in
      let upper = get_or-insert_above others (place_of one others) one d (j + 1) (omega arith) within in
      rw (lower, upper) (sorted j d (omega arith) more)

  in_order_from : (k : ℕ) (d : Suggestion) → place_of one others ≤ k → k < length others → InOrderAt (inserted one others) k d
  in_order_from k d from more = elim (cases_lt (place_of one others) k) [
    | inl above ↦ let back : k - 1 + 1 ≡ k = omega arith in
        subst (λ n. InOrderAt (inserted one others) n d) back (in_order_above (k - 1) d (omega arith) (omega arith))
    | inr under ↦ let here : place_of one others ≡ k = omega arith in
        subst (λ n. InOrderAt (inserted one others) n d) here (in_order_at d (omega arith))
  ]

  -- sorted suggestions stay so
  pub IsSorted-inserted : IsSorted suggestion_cmp (inserted one others)
  IsSorted-inserted k d low within =
      let size = length-insert others (place_of one others) one (place_of-le one others) in
      elim (cases_lt (k + 1) (place_of one others)) [
        | inl below ↦ in_order_below k d below
        | inr under ↦ elim (cases_lt k (place_of one others)) [
          | inl before ↦ in_order_before k d (omega arith)
          | inr from ↦ in_order_from k d from (omega arith)
        ]
      ]

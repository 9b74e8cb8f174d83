-- The characters of a text that begin before an offset.
use Rattle.std.proofs.Common.{◌≡◌, ◌∙◌, ◌≤◌, ◌<◌, ◌+◌, ◌-◌, ◌/◌, inl, inr, ℕ, zero, suc, List, [], ◌∷◌, ◌++◌, length, get_or, take, drop, refl, ap, ap₂, sym, arith, chars, Bool, true, false, cond}
use Rattle.std.proofs.Math.Dec.{ltb}
use Rattle.std.proofs.Math.Utf8.{next, encode, encodes}
use Rattle.std.proofs.Math.Seq.{take-append_seam, drop-append_seam}
use Rattle.std.proofs.lemmas.Bool.{cases_Bool, cases_lt, ltb-true}
use Rattle.std.proofs.lemmas.Bool.Decides.{nat_tests}
use Rattle.std.proofs.lemmas.List.{take_all, take-append-drop}
use Rattle.std.proofs.lemmas.List.Sums.{sum_by-append, sum_by-cons, count_by_more_no}
use Rattle.std.proofs.lemmas.Str.{IsUtf8-take, IsUtf8-drop, encodes-chars, chars-append}
use Rattle.std.specs.List.{count_by}
use Rattle.std.specs.Str.{IsUtf8, IsCharBoundary}
use Rattle.telling.specs.Positions.{begins_char}
use Rattle.telling.specs.Told.{begun}

-- ---- each character has one byte with which it begins
begins_small : (b : ℕ) → b < 128 → begins_char b ≡ true
begins_small b h = grind (arith, nat_tests)

begins_large : (b : ℕ) → 192 ≤ b → begins_char b ≡ true
begins_large b h = grind (arith, nat_tests)

begins_none : (b : ℕ) → 128 ≤ b → b < 192 → begins_char b ≡ false
begins_none b l h = grind (arith, nat_tests)

lead : (b : ℕ) (bs : List ℕ) → begins_char b ≡ true → count_by begins_char bs ≡ 0 → count_by begins_char (b ∷ bs) ≡ 1
lead b bs e none = let h = sum_by-cons (λ x. cond (begins_char x) 1 0) b bs in let one = ap (λ v. cond {A = ℕ} v 1 0) e in omega (arith, h, one, none)

more : (bits : ℕ) (bs : List ℕ) → count_by begins_char bs ≡ 0 → count_by begins_char (next bits ∷ bs) ≡ 0
more bits bs none =
    let h = sum_by-cons (λ x. cond (begins_char x) 1 0) (next bits) bs in
    let zero_more = ap (λ v. cond {A = ℕ} v 1 0) (begins_none (next bits) (omega arith) (omega arith)) in omega (arith, h, zero_more, none)

one_by : (u v w : Bool) (c : ℕ) → (u ≡ true → c < 128)
    → count_by begins_char (cond u (c ∷ []) (cond v ((192 + c / 64) ∷ next c ∷ []) (cond w ((224 + c / 4096) ∷ next (c / 64) ∷ next c ∷ []) ((240 + c / 262144) ∷ next (c / 4096) ∷ next (c / 64) ∷ next c ∷ [])))) ≡ 1
one_by true v w c h = lead c [] (begins_small c (h refl)) refl
one_by false true w c h = lead (192 + c / 64) (next c ∷ []) (begins_large (192 + c / 64) (omega arith)) (more c [] refl)
one_by false false true c h =
    lead (224 + c / 4096) (next (c / 64) ∷ next c ∷ []) (begins_large (224 + c / 4096) (omega arith)) (more (c / 64) (next c ∷ []) (more c [] refl))
one_by false false false c h =
    lead (240 + c / 262144) (next (c / 4096) ∷ next (c / 64) ∷ next c ∷ []) (begins_large (240 + c / 262144) (omega arith))
    (more (c / 4096) (next (c / 64) ∷ next c ∷ []) (more (c / 64) (next c ∷ []) (more c [] refl)))

one_begins : (c : ℕ) → count_by begins_char (encode c) ≡ 1
unfolding encode
one_begins c = one_by (ltb c 128) (ltb c 2048) (ltb c 65536) c (ltb-true c 128)

all_begin : (cs : List ℕ) → count_by begins_char (encodes cs) ≡ length cs
all_begin [] = refl
all_begin (c ∷ cs) =
    let h = sum_by-append (λ x. cond (begins_char x) 1 0) (encode c) (encodes cs) in
    let one = one_begins c in let rest = all_begin cs in omega (arith, h, one, rest)

-- ---- the next offset at which a text may be cut
pub record IsCeil (text : List ℕ) (offset at : ℕ) : Type 0 where
  pub bound : offset ≤ length text → offset ≤ at
  pub boundary : IsCharBoundary text at
  pub nearest : (i : ℕ) → offset ≤ i → i < at → ¬ (IsCharBoundary text i)
  pub beyond : length text < offset → at ≡ length text

large : (b : ℕ) → begins_char b ≡ true → 128 ≤ b → 192 ≤ b
large b e h = grind (arith, nat_tests)

not_begun : (text : List ℕ) (i : ℕ) → i < length text → ¬ (IsCharBoundary text i) → begins_char (get_or text i 0) ≡ false
not_begun text i l none = elim (cases_Bool (begins_char (get_or text i 0))) [
  | inr e ↦ e
  | inl e ↦ absurd (none (omega arith, λ inside high. large (get_or text i 0) e high))
]

later : (a b : ℕ) → a + suc b ≡ a + b + 1
later a b = omega arith

none_between : (text : List ℕ) (offset at k : ℕ) → IsCeil text offset at → at ≤ length text → offset + k ≤ at
    → count_by begins_char (take (offset + k) text) ≡ count_by begins_char (take offset text)
none_between text offset at zero is within l = let h : offset + 0 ≡ offset = omega arith in ap (λ n. count_by begins_char (take n text)) h
none_between text offset at (suc k) is within l =
    let here : offset + k < length text = omega arith in
    let none = not_begun text (offset + k) here (is.nearest (offset + k) (omega arith) (omega arith)) in
    ap (λ n. count_by begins_char (take n text)) (later offset k)
    ∙ count_by_more_no begins_char text (offset + k) 0 here none
    ∙ none_between text offset at k is within (omega arith)

module _ (text : List ℕ) (offset at : ℕ) (utf8 : IsUtf8 text) (is : IsCeil text offset at) where
  same_begun : begun text offset ≡ begun text at
  same_begun = elim (cases_lt (length text) offset) [
    | inl past ↦
        let e = is.beyond past in
        ap (count_by begins_char) (take_all offset text (omega arith) ∙ sym (take_all at text (omega (arith, e))))
    | inr within ↦
        let b = is.bound within in
        let h : at ≡ offset + (at - offset) = omega (arith, b) in
        sym (ap (λ n. count_by begins_char (take n text)) h ∙ none_between text offset at (at - offset) is is.boundary.0 (omega (arith, h)))
  ]

  is_front : IsUtf8 (take at text)
  is_front = IsUtf8-take text at utf8 is.boundary

  count : begun text offset ≡ length (chars (take at text))
  count = same_begun ∙ ap (count_by begins_char) (sym (encodes-chars (take at text) is_front)) ∙ all_begin (chars (take at text))

  split : chars text ≡ chars (take at text) ++ chars (drop at text)
  split = ap chars (sym (take-append-drop at text)) ∙ chars-append (take at text) (drop at text) is_front

  pub front_chars : (before line : List ℕ) → IsUtf8 before → line ≡ before ++ take at text → chars line ≡ chars before ++ take (begun text offset) (chars text)
  front_chars before line u e =
      let front : take (begun text offset) (chars text) ≡ chars (take at text) =
      ap₂ (λ (n : ℕ) (cs : List ℕ). take n cs) count split ∙ take-append_seam (chars (take at text)) (chars (drop at text)) in
      ap chars e ∙ chars-append before (take at text) u ∙ ap (λ v. chars before ++ v) (sym front)

  pub back_chars : (behind line : List ℕ) → line ≡ drop at text ++ behind → chars line ≡ drop (begun text offset) (chars text) ++ chars behind
  back_chars behind line e =
      let back : drop (begun text offset) (chars text) ≡ chars (drop at text) =
      ap₂ (λ (n : ℕ) (cs : List ℕ). drop n cs) count split ∙ drop-append_seam (chars (take at text)) (chars (drop at text)) in
      ap chars e ∙ chars-append (drop at text) behind (IsUtf8-drop text at utf8 is.boundary) ∙ ap (λ v. v ++ chars behind) (sym back)

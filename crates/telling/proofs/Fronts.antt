-- The characters of a line, taken one by one from its end.
use Rattle.std.proofs.Common.{◌≡◌, ◌∙◌, ◌≤◌, ◌<◌, ◌-◌, inl, inr, ℕ, suc, List, [], ◌∷◌, ◌++◌, length, take, refl, ap, ap₂, sym, arith, chars, reverse, append-nil, append_assoc, length-append, true, false, cond, not}
use Rattle.std.proofs.Math.Utf8.{encode}
use Rattle.std.proofs.Math.Seq.{take-nil}
use Rattle.std.proofs.lemmas.Bool.{eqb-true, cases_Bool}
use Rattle.std.proofs.lemmas.List.{reverse-append}
use Rattle.std.proofs.lemmas.List.Sums.{take_while-cons}
use Rattle.std.proofs.lemmas.Str.{encodes-append, encodes-chars, chars_from_encodes}
use Rattle.std.specs.List.{take_while}
use Rattle.std.specs.Str.{IsUtf8}
use Rattle.telling.specs.Positions.{is_feed}
use Rattle.telling.specs.Places.{line_front}

pub last_char : (text before : List ℕ) (c : ℕ) → IsUtf8 text → IsUtf8 before → text ≡ before ++ encode c → chars text ≡ chars before ++ c ∷ []
last_char text before c u front e =
    sym (chars_from_encodes (chars before ++ c ∷ []) text u
    (encodes-append (chars before) (c ∷ []) ∙ ap₂ (λ (a b : List ℕ). a ++ b) (encodes-chars before front) (append-nil (encode c)) ∙ sym e))

pub not_feed : (c : ℕ) → (c ≡ 10 → ⊥) → is_feed c ≡ false
not_feed c h = elim (cases_Bool (is_feed c)) [ inr e ↦ e | inl e ↦ absurd (h (eqb-true c 10 e)) ]

-- the line ends before a line feed
front_feed : (most c : ℕ) (cs : List ℕ) → is_feed c ≡ true → line_front most (c ∷ cs) ≡ []
front_feed most c cs e =
    ap (take most) (take_while-cons (λ x. not (is_feed x)) c cs ∙ ap (λ v. cond (not v) (c ∷ take_while (λ x. not (is_feed x)) cs) []) e) ∙ take-nil most

front_other : (most c : ℕ) (cs : List ℕ) → is_feed c ≡ false → line_front (suc most) (c ∷ cs) ≡ c ∷ line_front most cs
front_other most c cs e =
    ap (take (suc most)) (take_while-cons (λ x. not (is_feed x)) c cs ∙ ap (λ v. cond (not v) (c ∷ take_while (λ x. not (is_feed x)) cs) []) e)

turned : (before : List ℕ) (c : ℕ) → reverse (before ++ c ∷ []) ≡ c ∷ reverse before
turned before c = reverse-append before (c ∷ [])

module _ (back rest whole : List ℕ) (most : ℕ) (is : back ++ line_front (most - length back) (reverse rest) ≡ whole) where
  pub none_left : rest ≡ [] → back ≡ whole
  none_left e = sym (append-nil back) ∙ sym (ap (λ v. back ++ v) (ap (λ cs. line_front (most - length back) (reverse cs)) e ∙ take-nil (most - length back))) ∙ is

  pub enough : most ≤ length back → back ≡ whole
  enough l =
      let none : most - length back ≡ 0 = omega arith in
      sym (append-nil back) ∙ sym (ap (λ v. back ++ v) (ap (λ n. line_front n (reverse rest)) none)) ∙ is

  pub feed_next : (before : List ℕ) (c : ℕ) → rest ≡ before ++ c ∷ [] → is_feed c ≡ true → back ≡ whole
  feed_next before c e f =
      sym (append-nil back)
      ∙ sym (ap (λ v. back ++ v) (ap (λ cs. line_front (most - length back) cs) (ap reverse e ∙ turned before c) ∙ front_feed (most - length back) c (reverse before) f)) ∙ is

  pub other_next : (before : List ℕ) (c : ℕ) → rest ≡ before ++ c ∷ [] → is_feed c ≡ false → length back < most
      → (back ++ c ∷ []) ++ line_front (most - length (back ++ c ∷ [])) (reverse before) ≡ whole
  other_next before c e f l =
      let long = length-append back (c ∷ []) in
      let one : length (c ∷ []) ≡ 1 = refl in
      let left : most - length back ≡ suc (most - length (back ++ c ∷ [])) = omega (arith, long, one) in
      append_assoc back (c ∷ []) (line_front (most - length (back ++ c ∷ [])) (reverse before))
      ∙ sym (ap (λ v. back ++ v) (ap₂ (λ (n : ℕ) (cs : List ℕ). line_front n cs) left (ap reverse e ∙ turned before c) ∙ front_other (most - length (back ++ c ∷ [])) c (reverse before) f))
      ∙ is

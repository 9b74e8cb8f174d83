-- Lines of a text, and positions in them.
use Rattle.std.proofs.Common.{◌≡◌, ◌∙◌, ◌≤◌, ◌<◌, ◌+◌, ◌-◌, ◌⊎◌, inl, inr, ℕ, zero, suc, List, [], ◌∷◌, ◌++◌, length, get_or, take, drop, refl, ap, ap₂, sym, subst, arith, codes, Bool, true, false, cond, ◌||◌}
use Rattle.std.proofs.Math.Seq.{take-suc}
use Rattle.std.proofs.lemmas.Bool.{eqb-true, cases_Bool, or_left, or_right}
use Rattle.std.proofs.lemmas.Slice.Eq.{bytes_eq-Decides}
use Rattle.std.proofs.Math.ListN.{drop_of_length-le}
use Rattle.std.proofs.lemmas.List.{take-append-drop, drop-append-le, length-take-le, length-drop, get_or-drop}
use Rattle.std.proofs.lemmas.List.Sums.{sum_by-append}
use Rattle.std.proofs.lemmas.Str.{IsCharBoundary-start, IsCharBoundary-end, IsCharBoundary-before_ascii, IsCharBoundary-after_ascii}
use Rattle.std.proofs.Math.Numerals.{add-one}
use Rattle.std.specs.List.{list_any, count_by}
use Rattle.std.specs.Str.{bytes_eq, IsUtf8, IsCharBoundary}
use Rattle.std.proofs.Math.Bool.{or-false}
use Rattle.telling.specs.Positions.{is_feed, begins_char, behind_feeds, before_feed, without_return}

-- ---- a line without a carriage return at its end
unended_from : (line : List ℕ) (b : Bool) → b ≡ false → line ≡ cond b (take (length line - 1) line) line
unended_from line false e = refl
unended_from line true e = cc

pub left_unended : (line : List ℕ) → ((front : List ℕ) → line ≡ front ++ codes "\r" → ⊥) → line ≡ without_return line
left_unended line none = elim (cases_Bool (bytes_eq (drop (length line - 1) line) (codes "\r"))) [
  | inl ends ↦ absurd (none (take (length line - 1) line)
      (sym (take-append-drop (length line - 1) line) ∙ ap (λ v. take (length line - 1) line ++ v) ((bytes_eq-Decides (drop (length line - 1) line) (codes "\r")).0 ends)))
  | inr other ↦ unended_from line (bytes_eq (drop (length line - 1) line) (codes "\r")) other
]

-- ---- what stands behind the line feeds, with a byte more
or_assoc : (a b c : Bool) → (a || (b || c)) ≡ ((a || b) || c)
or_assoc true b c = refl
or_assoc false b c = refl

any_feed : (xs : List ℕ) (b : ℕ) → list_any is_feed (xs ++ b ∷ []) ≡ (list_any is_feed xs || is_feed b)
any_feed [] b = or-false (is_feed b)
any_feed (x ∷ xs) b = ap (λ v. is_feed x || v) (any_feed xs b) ∙ or_assoc (is_feed x) (list_any is_feed xs) (is_feed b)

none_behind : (xs : List ℕ) (b : ℕ) → is_feed b ≡ true → behind_feeds (xs ++ b ∷ []) ≡ []
none_behind [] b e = ap (λ v. cond v [] (b ∷ [])) (or_left (is_feed b) false e)
none_behind (x ∷ xs) b e =
    let some : list_any is_feed (x ∷ xs ++ b ∷ []) ≡ true = any_feed (x ∷ xs) b ∙ or_right (list_any is_feed (x ∷ xs)) (is_feed b) e in
    ap (λ v. cond v (behind_feeds (xs ++ b ∷ [])) (x ∷ xs ++ b ∷ [])) some ∙ none_behind xs b e

pub or_same : (a b : Bool) → b ≡ false → (a || b) ≡ a
or_same true b e = refl
or_same false b e = e

cond_more : (v : Bool) (xs ys : List ℕ) (b : ℕ) → cond v (xs ++ b ∷ []) (ys ++ b ∷ []) ≡ cond v xs ys ++ b ∷ []
cond_more true xs ys b = refl
cond_more false xs ys b = refl

one_behind : (xs : List ℕ) (b : ℕ) → is_feed b ≡ false → behind_feeds (xs ++ b ∷ []) ≡ behind_feeds xs ++ b ∷ []
one_behind [] b e = ap (λ v. cond v [] (b ∷ [])) (or_same false (is_feed b || false) (ap (λ w. w || false) e))
one_behind (x ∷ xs) b e =
    let same : list_any is_feed (x ∷ xs ++ b ∷ []) ≡ list_any is_feed (x ∷ xs) = any_feed (x ∷ xs) b ∙ or_same (list_any is_feed (x ∷ xs)) (is_feed b) e in
    ap (λ v. cond v (behind_feeds (xs ++ b ∷ [])) (x ∷ xs ++ b ∷ [])) same
    ∙ ap (λ v. cond (list_any is_feed (x ∷ xs)) v (x ∷ xs ++ b ∷ [])) (one_behind xs b e)
    ∙ cond_more (list_any is_feed (x ∷ xs)) (behind_feeds xs) (x ∷ xs) b

-- ---- a position in the bytes of a text
pub record IsAt (bytes text : List ℕ) (at of_line of_column from : ℕ) : Type 0 where
  pub line : of_line ≡ suc (count_by is_feed (take at bytes))
  pub column : of_column ≡ suc (count_by begins_char (behind_feeds (take at bytes)))
  pub within : from ≤ at
  pub start : drop from (take at bytes) ≡ behind_feeds (take at bytes)
  pub boundary : IsCharBoundary text from

pub at_first : (bytes text : List ℕ) → IsUtf8 text → IsAt bytes text 0 1 1 0
at_first bytes text utf8 = record { line = refl; column = refl; within = omega arith; start = refl; boundary = IsCharBoundary-start text utf8 }

one_counted : (a v : Bool) → a ≡ v → cond a 1 0 + 0 ≡ cond v 1 0
one_counted true true e = refl
one_counted true false e = cc
one_counted false true e = cc
one_counted false false e = refl

counted : (p : ℕ → Bool) (xs : List ℕ) (b : ℕ) (v : Bool) → p b ≡ v → count_by p (xs ++ b ∷ []) ≡ count_by p xs + cond v 1 0
counted p xs b v e = let h = sum_by-append (λ x. cond (p x) 1 0) xs (b ∷ []) in let one = one_counted (p b) v e in omega (arith, h, one)

module _ (bytes text : List ℕ) (at line column start b : ℕ) (here : IsAt bytes text at line column start) (less : at < length bytes) (is : b ≡ get_or bytes at 0) (same : bytes ≡ text) where
  grown : take (at + 1) bytes ≡ take at bytes ++ b ∷ []
  grown = ap (λ n. take n bytes) (add-one at) ∙ take-suc bytes at 0 less ∙ ap (λ v. take at bytes ++ v ∷ []) (sym is)

  pub past_feed : IsUtf8 text → b ≡ 10 → IsAt bytes text (at + 1) (line + 1) 1 (at + 1)
  past_feed utf8 e =
      let feed : is_feed b ≡ true = ap is_feed e in
      let none : behind_feeds (take (at + 1) bytes) ≡ [] = ap behind_feeds grown ∙ none_behind (take at bytes) b feed in
      let small : get_or text at 0 < 128 = let h = ap (λ v. get_or v at 0) same in omega (arith, e, is, h) in
      let all : at < length text = let h = ap length same in omega arith in
      record {
        line = let h = ap (count_by is_feed) grown ∙ counted is_feed (take at bytes) b true feed in omega (arith, here.line, h);
        column = ap (λ v. suc (count_by begins_char v)) (sym none);
        within = omega arith;
        start = drop_of_length-le (take (at + 1) bytes) (let h = length-take-le (at + 1) bytes (omega arith) in omega (arith, h)) ∙ sym none;
        boundary = IsCharBoundary-after_ascii text at utf8 all small;
      }

  other_feed : (b ≡ 10 → ⊥) → is_feed b ≡ false
  other_feed h = elim (cases_Bool (is_feed b)) [ inr e ↦ e | inl e ↦ absurd (h (eqb-true b 10 e)) ]

  pub past_other : (v : Bool) → begins_char b ≡ v → (b ≡ 10 → ⊥) → (next : ℕ) → next ≡ column + cond v 1 0 → IsAt bytes text (at + 1) line next start
  past_other v begins h next e =
      let other = other_feed h in
      let more : behind_feeds (take (at + 1) bytes) ≡ behind_feeds (take at bytes) ++ b ∷ [] = ap behind_feeds grown ∙ one_behind (take at bytes) b other in
      let long : length (take at bytes) ≡ at = length-take-le at bytes (omega arith) in
      record {
        line = let g = ap (count_by is_feed) grown ∙ counted is_feed (take at bytes) b false other in omega (arith, here.line, g);
        column = let g = ap (count_by begins_char) more ∙ counted begins_char (behind_feeds (take at bytes)) b v begins in omega (arith, here.column, g, e);
        within = let w = here.within in omega (arith, w);
        start = ap (drop start) grown ∙ drop-append-le start (take at bytes) (b ∷ []) (let w = here.within in omega (arith, w, long)) ∙ ap (λ w. w ++ b ∷ []) here.start ∙ sym more;
        boundary = here.boundary;
      }

-- ---- the line
front_by : (v : Bool) (x : ℕ) (xs : List ℕ) → take (length (before_feed xs)) xs ≡ before_feed xs → take (length (cond v [] (x ∷ before_feed xs))) (x ∷ xs) ≡ cond v [] (x ∷ before_feed xs)
front_by true x xs h = refl
front_by false x xs h = ap (λ v. x ∷ v) h

front_of : (xs : List ℕ) → take (length (before_feed xs)) xs ≡ before_feed xs
front_of [] = refl
front_of (x ∷ xs) = front_by (is_feed x) x xs (front_of xs)

taken_past : (xs ys : List ℕ) (n m : ℕ) → n ≡ length xs + m → take n (xs ++ ys) ≡ xs ++ take m ys
taken_past [] ys n m e = let h : n ≡ m = omega (arith, e) in ap (λ k. take k ys) h
taken_past (x ∷ xs) ys zero m e = absurd (omega arith)
taken_past (x ∷ xs) ys (suc n) m e = ap (λ v. x ∷ v) (taken_past xs ys n m (omega arith))

pub line_text : (text : List ℕ) (offset start end_of : ℕ) → offset ≤ length text → start ≤ offset → drop start (take offset text) ≡ behind_feeds (take offset text) → end_of ≡ offset + length (before_feed (drop offset text))
    → take (end_of - start) (drop start text) ≡ behind_feeds (take offset text) ++ before_feed (drop offset text)
line_text text offset start end_of l w s e =
    let front = take offset text in
    let long : length front ≡ offset = length-take-le offset text l in
    let split : drop start text ≡ drop start front ++ drop offset text = ap (drop start) (sym (take-append-drop offset text)) ∙ drop-append-le start front (drop offset text) (omega (arith, long)) in
    let left : length (drop start front) ≡ offset - start = length-drop start front ∙ ap (λ n. n - start) long in
    ap (take (end_of - start)) split
    ∙ taken_past (drop start front) (drop offset text) (end_of - start) (length (before_feed (drop offset text))) (omega (arith, left, e, w))
    ∙ ap₂ (λ a b. a ++ b) s (front_of (drop offset text))

-- a line ends at a line feed, or with the text
abbrev EndsAt : List ℕ → List ℕ → Type 0
EndsAt front xs = (length front ≡ length xs) ⊎ ((length front < length xs) × (get_or xs (length front) 0 ≡ 10))

ends_by : (v : Bool) (x : ℕ) (xs : List ℕ) → is_feed x ≡ v → EndsAt (before_feed xs) xs → EndsAt (cond v [] (x ∷ before_feed xs)) (x ∷ xs)
ends_by true x xs e h = inr (omega arith, eqb-true x 10 e)
ends_by false x xs e (inl h) = inl (ap suc h)
ends_by false x xs e (inr h) = inr (omega (arith, h.0), h.1)

ends_at : (xs : List ℕ) → EndsAt (before_feed xs) xs
ends_at [] = inl refl
ends_at (x ∷ xs) = ends_by (is_feed x) x xs refl (ends_at xs)

pub end_boundary : (text : List ℕ) (offset end_of : ℕ) → offset ≤ length text → end_of ≡ offset + length (before_feed (drop offset text)) → IsCharBoundary text end_of
end_boundary text offset end_of l e =
    let left = length-drop offset text in
    elim (ends_at (drop offset text)) [
      | inl h ↦ let last : length text ≡ end_of = omega (arith, left, h, e) in subst (IsCharBoundary text) last (IsCharBoundary-end text)
      | inr h ↦
          let inside : end_of < length text = omega (arith, left, h.0, e) in
          let byte : get_or text end_of 0 ≡ 10 = ap (λ n. get_or text n 0) e ∙ sym (get_or-drop offset text (length (before_feed (drop offset text))) 0) ∙ h.1 in
          IsCharBoundary-before_ascii text end_of inside (omega (arith, byte))
    ]

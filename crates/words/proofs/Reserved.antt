-- A text is a keyword only if it has what all keywords have: a length, a small letter at its front.
use Rattle.std.proofs.Common.{◌≡◌, ℕ, ◌<◌, List, [], ◌∷◌, ◌++◌, length, refl, ap, ap₂, sym, ◌∙◌, arith, Bool, true, false, ◌&&◌, ◌||◌, ltb, cond, codes, Some, None}
use Rattle.std.proofs.lemmas.Bool.{and_parts, false_from_ne_true}
use Rattle.std.specs.List.{list_all}
use Rattle.std.specs.Str.{bytes_eq}
use Rattle.std.proofs.lemmas.Bool.Decides.{nat_tests}
use Rattle.std.proofs.Math.Bool.{or-false}
use Rattle.std.proofs.lemmas.Slice.Eq.{bytes_eq-Decides}
use Rattle.std.proofs.lemmas.List.Folds.{list_any-append}
use Rattle.words.specs.declared.vocabulary.Keyword.TheVariants as keywords
use Rattle.words.specs.Words.{begins_small, found_in, grammar_keywords, is_among, is_reserved, keyword_of, reserved_words, reserved_of_2, reserved_of_3, reserved_of_4, reserved_of_5, reserved_of_6, reserved_of_7, reserved_of_8}

none_passes : (test : List ℕ → Bool) (text : List ℕ) (words : List (List ℕ)) → list_all test words ≡ true → test text ≡ false → is_among text words ≡ false
none_passes test text [] e h = refl
none_passes test text (word ∷ words) e h =
    let parts = and_parts (test word) (list_all test words) e in
    let other : bytes_eq text word ≡ false = false_from_ne_true (bytes_eq text word) (λ k. let same = ap test ((bytes_eq-Decides text word).0 k) in cc) in
    ap₂ (λ a b. a || b) other (none_passes test text words parts.1 h)

abbrev of_length : (ℕ → Bool) → List ℕ → Bool
of_length test word = test (length word)

abbrev lengths_pass : (ℕ → Bool) → List (List ℕ) → Bool
lengths_pass test words = list_all (of_length test) words

abbrev shorter : ℕ → ℕ → Bool
shorter n m = ltb m n

abbrev longer : ℕ → ℕ → Bool
longer n m = ltb n m

not_shorter : (n m : ℕ) → m ≡ n → shorter n m ≡ false
not_shorter n m e = grind (arith, nat_tests)

not_longer : (n m : ℕ) → m ≡ n → longer n m ≡ false
not_longer n m e = grind (arith, nat_tests)

-- words that are all shorter, and words that are all longer, can be left out
at_length : (n : ℕ) (text : List ℕ) (front middle back : List (List ℕ)) → length text ≡ n → lengths_pass (shorter n) front ≡ true → lengths_pass (longer n) back ≡ true
    → is_among text middle ≡ is_among text (front ++ (middle ++ back))
at_length n text front middle back e f b =
    let same = λ (w : List ℕ). bytes_eq text w in
    let before : is_among text (front ++ (middle ++ back)) ≡ is_among text (middle ++ back) =
    list_any-append same front (middle ++ back) ∙ ap (λ v. v || is_among text (middle ++ back)) (none_passes (of_length (shorter n)) text front f (not_shorter n (length text) e)) in
    let after : is_among text (middle ++ back) ≡ is_among text middle =
    list_any-append same middle back ∙ ap (λ v. is_among text middle || v) (none_passes (of_length (longer n)) text back b (not_longer n (length text) e)) ∙ or-false (is_among text middle) in
    sym (before ∙ after)

within : (n : ℕ) → (1 < n → n < 9 → ⊥) → (ltb 1 n && ltb n 9) ≡ false
within n h = false_from_ne_true (ltb 1 n && ltb n 9) (λ e. let low : 1 < n = grind (arith, nat_tests) in let high : n < 9 = grind (arith, nat_tests) in h low high)

abbrev to_3 : List (List ℕ)
to_3 = reserved_of_2 ++ reserved_of_3

abbrev to_4 : List (List ℕ)
to_4 = to_3 ++ reserved_of_4

abbrev to_5 : List (List ℕ)
to_5 = to_4 ++ reserved_of_5

abbrev to_6 : List (List ℕ)
to_6 = to_5 ++ reserved_of_6

abbrev from_7 : List (List ℕ)
from_7 = reserved_of_7 ++ reserved_of_8

abbrev from_6 : List (List ℕ)
from_6 = reserved_of_6 ++ from_7

abbrev from_5 : List (List ℕ)
from_5 = reserved_of_5 ++ from_6

abbrev from_4 : List (List ℕ)
from_4 = reserved_of_4 ++ from_5

abbrev from_3 : List (List ℕ)
from_3 = reserved_of_3 ++ from_4

module _ (text : List ℕ) where
  pub reserved_outside : (1 < length text → length text < 9 → ⊥) → is_reserved text ≡ false
  unfolding is_reserved
  reserved_outside h = none_passes (of_length (λ n. ltb 1 n && ltb n 9)) text reserved_words refl (within (length text) h)

  pub reserved_at_2 : length text ≡ 2 → is_among text reserved_of_2 ≡ is_reserved text
  unfolding is_reserved
  reserved_at_2 e = at_length 2 text [] reserved_of_2 from_3 e refl refl

  pub reserved_at_3 : length text ≡ 3 → is_among text reserved_of_3 ≡ is_reserved text
  unfolding is_reserved
  reserved_at_3 e = at_length 3 text reserved_of_2 reserved_of_3 from_4 e refl refl

  pub reserved_at_4 : length text ≡ 4 → is_among text reserved_of_4 ≡ is_reserved text
  unfolding is_reserved
  reserved_at_4 e = at_length 4 text to_3 reserved_of_4 from_5 e refl refl

  pub reserved_at_5 : length text ≡ 5 → is_among text reserved_of_5 ≡ is_reserved text
  unfolding is_reserved
  reserved_at_5 e = at_length 5 text to_4 reserved_of_5 from_6 e refl refl

  pub reserved_at_6 : length text ≡ 6 → is_among text reserved_of_6 ≡ is_reserved text
  unfolding is_reserved
  reserved_at_6 e = at_length 6 text to_5 reserved_of_6 from_7 e refl refl

  pub reserved_at_7 : length text ≡ 7 → is_among text reserved_of_7 ≡ is_reserved text
  unfolding is_reserved
  reserved_at_7 e = at_length 7 text to_6 reserved_of_7 reserved_of_8 e refl refl

  pub reserved_at_8 : length text ≡ 8 → is_among text reserved_of_8 ≡ is_reserved text
  unfolding is_reserved
  reserved_at_8 e = at_length 8 text (to_6 ++ reserved_of_7) reserved_of_8 [] e refl refl

-- the keywords begin with a small letter, but for one
abbrev is_self_or_small : List ℕ → Bool
is_self_or_small text = bytes_eq text (codes "Self") || begins_small text

by_self : (text : List ℕ) (is_self : Bool) → begins_small text ≡ false → bytes_eq text (codes "Self") ≡ is_self → is_self ≡ is_reserved text
unfolding is_reserved
by_self text true h e = let is : text ≡ codes "Self" = (bytes_eq-Decides text (codes "Self")).0 e in rw is refl
by_self text false h e = sym (none_passes is_self_or_small text reserved_words refl (rw (e, h) refl))

pub reserved_unless_small : (text : List ℕ) → begins_small text ≡ false → bytes_eq text (codes "Self") ≡ is_reserved text
reserved_unless_small text h = by_self text (bytes_eq text (codes "Self")) h refl

not_found : {A : Type 0} → (text : List ℕ) (rows : List (List ℕ × A)) (other : A) → list_all (λ row. is_among row.0 reserved_words) rows ≡ true → is_among text reserved_words ≡ false
    → found_in text rows other ≡ other
not_found text [] other e h = refl
not_found text (row ∷ rows) other e h =
    let parts = and_parts (is_among row.0 reserved_words) (list_all (λ row. is_among row.0 reserved_words) rows) e in
    let differs : bytes_eq text row.0 ≡ false = false_from_ne_true (bytes_eq text row.0) (λ k. let same = ap (λ w. is_among w reserved_words) ((bytes_eq-Decides text row.0).0 k) in cc) in
    rw differs (not_found text rows other parts.1 h)

pub no_keyword : (text : List ℕ) → is_reserved text ≡ false → None ≡ keyword_of text
unfolding is_reserved keyword_of
no_keyword text h = sym (not_found text grammar_keywords (cond (is_reserved text) (Some keywords.Other) None) refl h ∙ ap (λ b. cond b (Some keywords.Other) None) h)

-- Runs of characters at the front of a text.
use Rattle.std.proofs.Common.{◌≡◌, ℕ, ◌≤◌, ◌⊎◌, inl, inr, List, [], ◌∷◌, ◌++◌, length, refl, ap, sym, ◌∙◌, arith, cond, Bool, true, false, not, ◌||◌, ◌&&◌, Option, Some, length-append}
use Rattle.std.proofs.lemmas.Bool.{and_parts}
use Rattle.std.specs.List.{list_all}
use Rattle.unicode_ident.specs.Ident.{is_xid_continue}
use Rattle.literals.specs.Literals.{last}
use Rattle.literals.specs.Scanning.{skip, last_of_word}

-- ---- tests
pub either : {A : Type 0} {x y z : A} → (b : Bool) → cond b x y ≡ z → ((b ≡ true) × (x ≡ z)) ⊎ ((b ≡ false) × (y ≡ z))
either true e = inl (refl, e)
either false e = inr (refl, e)

pub neither : (a b : Bool) → a ≡ false → b ≡ false → not (a || b) ≡ true
neither a b e f = ap (λ v. not (v || b)) e ∙ ap not f

pub cond_true : {A : Type 0} (x y : A) (b : Bool) → b ≡ true → cond b x y ≡ x
cond_true x y b e = ap (λ v. cond v x y) e

pub cond_false : {A : Type 0} (x y : A) (b : Bool) → b ≡ false → cond b x y ≡ y
cond_false x y b e = ap (λ v. cond v x y) e

pub some_same : {A : Type 0} {x y : A} → ◌≡◌ {A = Option A} (Some x) (Some y) → x ≡ y
some_same e = cc

-- ---- runs
skip_one : (p : ℕ → Bool) (c : ℕ) (cs : List ℕ) (b : Bool) → p c ≡ b → skip p (c ∷ cs) ≡ cond b (skip p cs) (c ∷ cs)
skip_one p c cs b e = ap (λ v. cond v (skip p cs) (c ∷ cs)) e

pub skip_more : (p : ℕ → Bool) (c : ℕ) (cs : List ℕ) → p c ≡ true → skip p (c ∷ cs) ≡ skip p cs
skip_more p c cs e = skip_one p c cs true e

-- what a run takes passes the test
abbrev pub Takes : (ℕ → Bool) → List ℕ → Type 0
Takes p us = (front : List ℕ) × (us ≡ front ++ skip p us) × (list_all p front ≡ true)

takes_one : (p : ℕ → Bool) (c : ℕ) (cs : List ℕ) (b : Bool) → p c ≡ b → Takes p cs → Takes p (c ∷ cs)
takes_one p c cs true e r = (c ∷ r.0, ap (λ v. c ∷ v) r.1 ∙ ap (λ v. (c ∷ r.0) ++ v) (sym (skip_one p c cs true e)), ap (λ v. v && list_all p r.0) e ∙ r.2)
takes_one p c cs false e r = ([], sym (skip_one p c cs false e), refl)

pub skip_split : (p : ℕ → Bool) (us : List ℕ) → Takes p us
skip_split p [] = ([], refl, refl)
skip_split p (c ∷ cs) = takes_one p c cs (p c) refl (skip_split p cs)

pub skip_short : (p : ℕ → Bool) (us : List ℕ) → length (skip p us) ≤ length us
skip_short p us = let r = skip_split p us in omega (arith, ap length r.1, length-append r.0 (skip p us))

pub skip_past : (p : ℕ → Bool) (xs ys : List ℕ) → list_all p xs ≡ true → skip p (xs ++ ys) ≡ skip p ys
skip_past p [] ys h = refl
skip_past p (x ∷ xs) ys h = let both = and_parts (p x) (list_all p xs) h in skip_more p x (xs ++ ys) both.0 ∙ skip_past p xs ys both.1

pub skip_least : (p : ℕ → Bool) (xs ys : List ℕ) → list_all p xs ≡ true → length (skip p (xs ++ ys)) ≤ length ys
skip_least p xs ys h = let same = ap length (skip_past p xs ys h) in omega (arith, skip_short p ys)

-- a run ends before the first character that does not pass
pub skip_exact : (p : ℕ → Bool) (xs : List ℕ) (d : ℕ) (ys : List ℕ) → list_all p xs ≡ true → p d ≡ false → skip p (xs ++ d ∷ ys) ≡ d ∷ ys
skip_exact p xs d ys h f = skip_past p xs (d ∷ ys) h ∙ skip_one p d ys false f

-- ---- words, with their last character
abbrev pub Word : ℕ → List ℕ → Type 0
Word c us = (front : List ℕ) × (us ≡ front ++ skip is_xid_continue us) × (list_all is_xid_continue front ≡ true) × (last_of_word c us ≡ last c front)

word_one : (c d : ℕ) (ds : List ℕ) (b : Bool) → is_xid_continue d ≡ b → Word d ds → Word c (d ∷ ds)
word_one c d ds true e r = (
  d ∷ r.0,
  ap (λ v. d ∷ v) r.1 ∙ ap (λ v. (d ∷ r.0) ++ v) (sym (skip_one is_xid_continue d ds true e)),
  ap (λ v. v && list_all is_xid_continue r.0) e ∙ r.2,
  ap (λ v. cond v (last_of_word d ds) c) e ∙ r.3,
)
word_one c d ds false e r = ([], sym (skip_one is_xid_continue d ds false e), refl, ap (λ v. cond v (last_of_word d ds) c) e)

pub word_split : (c : ℕ) (us : List ℕ) → Word c us
word_split c [] = ([], refl, refl, refl)
word_split c (d ∷ ds) = word_one c d ds (is_xid_continue d) refl (word_split d ds)

pub word_more : (c d : ℕ) (ds : List ℕ) → is_xid_continue d ≡ true → last_of_word c (d ∷ ds) ≡ last_of_word d ds
word_more c d ds e = ap (λ v. cond v (last_of_word d ds) c) e

pub word_exact : (c : ℕ) (xs : List ℕ) (d : ℕ) (ys : List ℕ) → list_all is_xid_continue xs ≡ true → is_xid_continue d ≡ false → last_of_word c (xs ++ d ∷ ys) ≡ last c xs
word_exact c [] d ys h f = ap (λ v. cond v (last_of_word d ys) c) f
word_exact c (x ∷ xs) d ys h f = let both = and_parts (is_xid_continue x) (list_all is_xid_continue xs) h in word_more c x (xs ++ d ∷ ys) both.0 ∙ word_exact x xs d ys both.1 f

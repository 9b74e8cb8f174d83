-- Raw strings: the scanner and the definition.
use Rattle.std.proofs.Common.{◌≡◌, ℕ, zero, suc, ◌+◌, ◌≤◌, inl, inr, List, [], ◌∷◌, ◌++◌, replicate, refl, ap, sym, ◌∙◌, arith, true, false, ◌&&◌, ◌==◌, nat_lt, Option, Some, None, append_assoc}
use Rattle.std.proofs.lemmas.Bool.{eqb-true, cases_Bool, and_parts}
use Rattle.std.proofs.lemmas.Bool.Decides.{nat_tests}
use Rattle.literals.specs.Literals.{IsRawText, IsRawString}
use Rattle.literals.specs.Scanning.{after_hashes, first_of, after_raw_text, after_raw_string}
use Rattle.literals.proofs.RunLaws.{either, cond_true, cond_false, some_same}

-- ---- signs #
pub hashes_read : (n : ℕ) (ys : List ℕ) → after_hashes n (replicate n 35 ++ ys) ≡ Some ys
hashes_read zero ys = refl
hashes_read (suc n) ys = hashes_read n ys

pub hashes_sound : (n : ℕ) (cs rest : List ℕ) → after_hashes n cs ≡ Some rest → cs ≡ replicate n 35 ++ rest
hashes_sound zero cs rest e = some_same e
hashes_sound (suc n) [] rest e = cc
hashes_sound (suc n) (c ∷ cs) rest e =
    elim (either (c == 35) e) [
      | inl h ↦ ap (λ v. v ∷ cs) (eqb-true c 35 h.0) ∙ ap (λ v. 35 ∷ v) (hashes_sound n cs rest h.1)
      | inr h ↦ cc
    ]

-- the signs that stand before a quote stand in the text before it
pub hashes_within : (n : ℕ) (text ys rest : List ℕ) → after_hashes n (text ++ 34 ∷ ys) ≡ Some rest → (after : List ℕ) × (text ≡ replicate n 35 ++ after)
hashes_within zero text ys rest e = (text, refl)
hashes_within (suc n) [] ys rest e = cc
hashes_within (suc n) (c ∷ cs) ys rest e =
    elim (either (c == 35) e) [
      | inl h ↦ let more = hashes_within n cs ys rest h.1 in (more.0, ap (λ v. v ∷ cs) (eqb-true c 35 h.0) ∙ ap (λ v. 35 ∷ v) more.1)
      | inr h ↦ cc
    ]

-- ---- texts
nothing_raw : (n : ℕ) → IsRawText n []
nothing_raw n [] after e = cc
nothing_raw n (b ∷ bs) after e = cc

raw_text_later : (n c : ℕ) (text : List ℕ) → IsRawText n text → ((after : List ℕ) → c ≡ 34 → ¬ (text ≡ replicate n 35 ++ after)) → IsRawText n (c ∷ text)
raw_text_later n c text raw first [] after e = let quote : c ≡ 34 = cc in let rest : text ≡ replicate n 35 ++ after = cc in first after quote rest
raw_text_later n c text raw first (b ∷ bs) after e = let rest : text ≡ bs ++ 34 ∷ (replicate n 35 ++ after) = cc in raw bs after rest

pub raw_text_inside : (n c : ℕ) (text : List ℕ) → IsRawText n (c ∷ text) → IsRawText n text
raw_text_inside n c text raw before after e = raw (c ∷ before) after (ap (λ v. c ∷ v) e)

-- what stands before the end of a raw string is a raw text
abbrev pub RawFront : ℕ → List ℕ → List ℕ → Type 0
RawFront n cs rest = (text : List ℕ) × (cs ≡ text ++ 34 ∷ (replicate n 35 ++ rest)) × IsRawText n text

raw_front_later : (n c : ℕ) (cs rest : List ℕ) → ((c == 34) ≡ true → after_hashes n cs ≡ None) → RawFront n cs rest → RawFront n (c ∷ cs) rest
raw_front_later n c cs rest none r = (
  c ∷ r.0,
  ap (λ v. c ∷ v) r.1,
  raw_text_later n c r.0 r.2
      (λ after quote e.
      let here : cs ≡ replicate n 35 ++ (after ++ 34 ∷ (replicate n 35 ++ rest)) = r.1 ∙ ap (λ v. v ++ 34 ∷ (replicate n 35 ++ rest)) e ∙ append_assoc (replicate n 35) after (34 ∷ (replicate n 35 ++ rest)) in
      let found : after_hashes n cs ≡ Some (after ++ 34 ∷ (replicate n 35 ++ rest)) = ap (after_hashes n) here ∙ hashes_read n _ in
      let nothing : after_hashes n cs ≡ None = none (ap (λ v. v == 34) quote) in
      cc),
)

found_in : (n c : ℕ) (cs rest : List ℕ) (found : Option (List ℕ)) → c ≡ 34 → after_hashes n cs ≡ found → first_of found (after_raw_text n cs) ≡ Some rest → (after_raw_text n cs ≡ Some rest → RawFront n cs rest) → RawFront n (c ∷ cs) rest
found_in n c cs rest None q f e more = raw_front_later n c cs rest (λ h. f) (more e)
found_in n c cs rest (Some end) q f e more =
    let same : end ≡ rest = some_same e in
    ([], ap (λ v. v ∷ cs) q ∙ ap (λ v. 34 ∷ v) (hashes_sound n cs end f ∙ ap (λ v. replicate n 35 ++ v) same), nothing_raw n)

pub raw_text_sound : (n : ℕ) (cs rest : List ℕ) → after_raw_text n cs ≡ Some rest → RawFront n cs rest
raw_text_sound n [] rest e = cc
raw_text_sound n (c ∷ cs) rest e =
    elim (either (c == 34) e) [
      | inl h ↦ found_in n c cs rest (after_hashes n cs) (eqb-true c 34 h.0) refl h.1 (raw_text_sound n cs rest)
      | inr h ↦ raw_front_later n c cs rest (λ q. let both : true ≡ false = sym q ∙ h.0 in cc) (raw_text_sound n cs rest h.1)
    ]

pub no_hashes : (n c : ℕ) (text ys : List ℕ) → IsRawText n (c ∷ text) → c ≡ 34 → (found : Option (List ℕ)) → after_hashes n (text ++ 34 ∷ ys) ≡ found → found ≡ None
no_hashes n c text ys raw q None e = refl
no_hashes n c text ys raw q (Some end) e =
    let within = hashes_within n text ys end e in
    absurd (raw [] within.0 (ap (λ v. v ∷ text) q ∙ ap (λ v. 34 ∷ v) within.1))

pub raw_text_reads : (n : ℕ) (text rest : List ℕ) → IsRawText n text → after_raw_text n (text ++ 34 ∷ (replicate n 35 ++ rest)) ≡ Some rest
raw_text_reads n [] rest raw = ap (λ v. first_of v (after_raw_text n (replicate n 35 ++ rest))) (hashes_read n rest)
raw_text_reads n (c ∷ cs) rest raw =
    let ys = replicate n 35 ++ rest in
    let later : after_raw_text n (cs ++ 34 ∷ ys) ≡ Some rest = raw_text_reads n cs rest (raw_text_inside n c cs raw) in
    let quoted = first_of (after_hashes n (cs ++ 34 ∷ ys)) (after_raw_text n (cs ++ 34 ∷ ys)) in
    elim (cases_Bool (c == 34)) [
      | inl q ↦ cond_true quoted _ (c == 34) q ∙ ap (λ v. first_of v (after_raw_text n (cs ++ 34 ∷ ys))) (no_hashes n c cs ys raw (eqb-true c 34 q) (after_hashes n (cs ++ 34 ∷ ys)) refl) ∙ later
      | inr q ↦ cond_false quoted _ (c == 34) q ∙ later
    ]

-- ---- raw strings, after k signs #
abbrev Raw : ℕ → List ℕ → List ℕ → Type 0
Raw k cs rest = (n : ℕ) × (m : ℕ) × (text : List ℕ) × (m ≡ k + n) × (m ≤ 255) × (cs ≡ replicate n 35 ++ 34 ∷ (text ++ 34 ∷ (replicate m 35 ++ rest))) × IsRawText m text

raw_sound : (k : ℕ) (cs rest : List ℕ) → k ≤ 255 → after_raw_string k cs ≡ Some rest → Raw k cs rest
raw_sound k [] rest l e = cc
raw_sound k (c ∷ cs) rest l e =
    elim (either (c == 34) e) [
      | inl h ↦ let r = raw_text_sound k cs rest h.1 in (0, k, r.0, omega arith, l, ap (λ v. v ∷ cs) (eqb-true c 34 h.0) ∙ ap (λ v. 34 ∷ v) r.1, r.2)
      | inr h ↦
          elim (either ((c == 35) && nat_lt k 255) h.1) [
            | inl g ↦
                let both = and_parts (c == 35) (nat_lt k 255) g.0 in
                let less : k + 1 ≤ 255 = grind (arith, nat_tests, both.1) in
                let r = raw_sound (k + 1) cs rest less g.1 in (suc r.0, r.1, r.2, omega (arith, r.3), r.4, ap (λ v. v ∷ cs) (eqb-true c 35 both.0) ∙ ap (λ v. 35 ∷ v) r.5, r.6)
            | inr g ↦ cc
          ]
    ]

pub raw_reads : (n k m : ℕ) (ys : List ℕ) → m ≡ k + n → m ≤ 255 → after_raw_string k (replicate n 35 ++ 34 ∷ ys) ≡ after_raw_text m ys
raw_reads zero k m ys e l = let same : k ≡ m = omega (arith, e) in ap (λ v. after_raw_text v ys) same
raw_reads (suc n) k m ys e l =
    let less : nat_lt k 255 ≡ true = grind (arith, nat_tests, e, l) in
    cond_true (after_raw_string (k + 1) (replicate n 35 ++ 34 ∷ ys)) None (nat_lt k 255) less ∙ raw_reads n (k + 1) m ys (omega (arith, e)) l

pub raw_string_sound : (cs rest : List ℕ) → after_raw_string 0 cs ≡ Some rest → (front : List ℕ) × (cs ≡ front ++ rest) × IsRawString front
raw_string_sound cs rest e =
    let r = raw_sound 0 cs rest (omega arith) e in
    let same : r.1 ≡ r.0 = omega (arith, r.3) in
    let hashes = replicate r.1 35 in
    let here : cs ≡ hashes ++ 34 ∷ (r.2 ++ 34 ∷ (hashes ++ rest)) = r.5 ∙ ap (λ v. replicate v 35 ++ 34 ∷ (r.2 ++ 34 ∷ (hashes ++ rest))) (sym same) in (
      hashes ++ 34 ∷ (r.2 ++ 34 ∷ hashes),
      here ∙ ap (λ v. hashes ++ 34 ∷ v) (sym (append_assoc r.2 (34 ∷ hashes) rest)) ∙ sym (append_assoc hashes (34 ∷ (r.2 ++ 34 ∷ hashes)) rest),
      (r.1, r.2, r.4, r.6, refl),
    )

pub raw_string_reads : (front rest : List ℕ) → IsRawString front → after_raw_string 0 (front ++ rest) ≡ Some rest
raw_string_reads front rest r =
    let none_before : (n : ℕ) → n ≡ 0 + n = λ n. omega arith in
    let hashes = replicate r.0 35 in
    let here : front ++ rest ≡ hashes ++ 34 ∷ (r.1 ++ 34 ∷ (hashes ++ rest)) =
    ap (λ v. v ++ rest) r.4 ∙ append_assoc hashes (34 ∷ (r.1 ++ 34 ∷ hashes)) rest ∙ ap (λ v. hashes ++ 34 ∷ v) (append_assoc r.1 (34 ∷ hashes) rest) in
    ap (after_raw_string 0) here ∙ raw_reads r.0 0 r.0 (r.1 ++ 34 ∷ (hashes ++ rest)) (none_before r.0) r.2 ∙ raw_text_reads r.0 r.1 rest r.3

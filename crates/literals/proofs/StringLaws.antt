-- Strings: the scanner and the definition.
use Rattle.std.proofs.Common.{◌≡◌, ℕ, zero, suc, ◌≤◌, inl, inr, List, [], ◌∷◌, ◌++◌, length, refl, ap, sym, subst, ◌∙◌, arith, true, false, ◌||◌, ◌==◌, Some, None, append_assoc, length-append}
use Rattle.std.proofs.lemmas.Bool.{not-true, eqb-true, cases_Bool, and_parts, or_parts}
use Rattle.std.specs.List.{list_all}
use Rattle.literals.specs.Literals.{is_plain, IsText, empty, plain, escaped, IsString}
use Rattle.literals.specs.Scanning.{allows, after_string}
use Rattle.literals.specs.declared.strings.Escapes.{Escapes}
use Rattle.literals.proofs.RunLaws.{neither, either, cond_true, cond_false, some_same}
use Rattle.literals.proofs.EscapeLaws.{EscapeFront, escape_of, allowed_sound, Allowed, allowed_reads}

-- what stands before the string's end is its text
abbrev TextFront : Escapes → List ℕ → List ℕ → Type 0
TextFront escapes cs rest = (text : List ℕ) × (cs ≡ text ++ 34 ∷ rest) × IsText (escape_of escapes) text

pub plain_signs : (c : ℕ) → is_plain c ≡ true → ((c == 34) ≡ false) × ((c == 92) ≡ false)
plain_signs c h = or_parts (c == 34) (c == 92) (not-true ((c == 34) || (c == 92)) h)

plain_passed : (escapes : Escapes) (c : ℕ) (cs : List ℕ) → is_plain c ≡ true → after_string escapes false (c ∷ cs) ≡ after_string escapes false cs
plain_passed escapes c cs h =
    let signs = plain_signs c h in
    cond_false (Some cs) (after_string escapes (c == 92) cs) (c == 34) signs.0 ∙ ap (λ v. after_string escapes v cs) signs.1

plains_passed : (escapes : Escapes) (front more : List ℕ) → list_all is_plain front ≡ true → after_string escapes false (front ++ more) ≡ after_string escapes false more
plains_passed escapes [] more h = refl
plains_passed escapes (c ∷ cs) more h =
    let both = and_parts (is_plain c) (list_all is_plain cs) h in
    plain_passed escapes c (cs ++ more) both.0 ∙ plains_passed escapes cs more both.1

past_escape : (escapes : Escapes) (c d : ℕ) (ds rest : List ℕ) (f : EscapeFront (escape_of escapes) d ds) → c ≡ 92 → TextFront escapes f.1 rest → TextFront escapes (c ∷ d ∷ ds) rest
past_escape escapes c d ds rest f e r = (
  92 ∷ ((d ∷ f.0) ++ r.0),
  ap (λ v. v ∷ d ∷ ds) e ∙ ap (λ v. 92 ∷ d ∷ v) (f.2 ∙ ap (λ v. f.0 ++ v) r.1 ∙ sym (append_assoc f.0 r.0 (34 ∷ rest))),
  escaped f.4 r.2,
)

after_backslash : (escapes : Escapes) (n c : ℕ) (cs rest : List ℕ) → ((more : List ℕ) → length more ≤ n → after_string escapes false more ≡ Some rest → TextFront escapes more rest)
    → length cs ≤ n → c ≡ 92 → after_string escapes true cs ≡ Some rest → TextFront escapes (c ∷ cs) rest
after_backslash escapes n c [] rest further l q e = cc
after_backslash escapes n c (d ∷ ds) rest further l q e =
    elim (either (allows escapes (d ∷ ds)) e) [
      | inl h ↦
          let f = allowed_sound escapes d ds h.0 in
          let less : length f.1 ≤ n = omega (arith, l, ap length f.2, length-append f.0 f.1) in
          let later : after_string escapes false f.1 ≡ Some rest = sym (ap (after_string escapes false) f.2 ∙ plains_passed escapes f.0 f.1 f.3) ∙ h.1 in
          past_escape escapes c d ds rest f q (further f.1 less later)
      | inr h ↦ cc
    ]

text_sound : (escapes : Escapes) (n : ℕ) (cs rest : List ℕ) → length cs ≤ n → after_string escapes false cs ≡ Some rest → TextFront escapes cs rest
text_sound escapes n [] rest l e = cc
text_sound escapes zero (c ∷ cs) rest l e = absurd (omega arith)
text_sound escapes (suc n) (c ∷ cs) rest l e =
    let less : length cs ≤ n = omega arith in
    elim (either (c == 34) e) [
      | inl h ↦ let same : cs ≡ rest = some_same h.1 in ([], ap (λ v. v ∷ cs) (eqb-true c 34 h.0) ∙ ap (λ v. 34 ∷ v) same, empty)
      | inr h ↦
          elim (cases_Bool (c == 92)) [
            | inl g ↦ after_backslash escapes n c cs rest (λ more few f. text_sound escapes n more rest few f) less (eqb-true c 92 g) (sym (ap (λ v. after_string escapes v cs) g) ∙ h.1)
            | inr g ↦
                let r = text_sound escapes n cs rest less (sym (ap (λ v. after_string escapes v cs) g) ∙ h.1) in
                (c ∷ r.0, ap (λ v. c ∷ v) r.1, plain (neither (c == 34) (c == 92) h.0 g) r.2)
          ]
    ]

pub string_sound : (escapes : Escapes) (cs rest : List ℕ) → after_string escapes false cs ≡ Some rest → (front : List ℕ) × (34 ∷ cs ≡ front ++ rest) × IsString (escape_of escapes) front
string_sound escapes cs rest e =
    let r = text_sound escapes (length cs) cs rest (omega arith) e in
    (34 ∷ (r.0 ++ 34 ∷ []), ap (λ v. 34 ∷ v) (r.1 ∙ sym (append_assoc r.0 (34 ∷ []) rest)), (r.0, refl, r.2))

escape_read : (escapes : Escapes) (escape more : List ℕ) → Allowed escapes more escape → after_string escapes true (escape ++ more) ≡ after_string escapes false more
escape_read escapes [] more a = absurd a
escape_read escapes (c ∷ cs) more a = cond_true (after_string escapes false (cs ++ more)) None (allows escapes (c ∷ (cs ++ more))) a.0 ∙ plains_passed escapes cs more a.1

pub text_reads : (escapes : Escapes) (text rest : List ℕ) → IsText (escape_of escapes) text → after_string escapes false (text ++ 34 ∷ rest) ≡ Some rest
text_reads escapes text rest empty = refl
text_reads escapes text rest (plain {c = c} {cs = cs} h r) = plain_passed escapes c (cs ++ 34 ∷ rest) h ∙ text_reads escapes cs rest r
text_reads escapes text rest (escaped {escape = front} {cs = cs} h r) =
    let more = cs ++ 34 ∷ rest in
    ap (after_string escapes true) (append_assoc front cs (34 ∷ rest)) ∙ escape_read escapes front more (allowed_reads escapes front more h) ∙ text_reads escapes cs rest r

-- the text after a first quote
abbrev pub AfterQuotes : (List ℕ → Type 0) → List ℕ → Type 0
AfterQuotes P [] = ⊥
AfterQuotes P (c ∷ cs) = (c ≡ 34) × P cs

pub string_reads : (escapes : Escapes) (front rest : List ℕ) → IsString (escape_of escapes) front → AfterQuotes (λ cs. after_string escapes false (cs ++ rest) ≡ Some rest) front
string_reads escapes front rest s =
    subst (AfterQuotes (λ cs. after_string escapes false (cs ++ rest) ≡ Some rest)) (sym s.1)
    (refl, ap (after_string escapes false) (append_assoc s.0 (34 ∷ []) rest) ∙ text_reads escapes s.0 rest s.2)

-- What may follow a backslash: the scanner and the definition.
use Rattle.std.proofs.Common.{◌≡◌, ℕ, ◌+◌, ◌*◌, ◌<◌, ◌≤◌, inl, inr, List, [], ◌∷◌, ◌++◌, length, map, refl, ap, sym, subst, ◌∙◌, arith, cond, Bool, true, false, not, ◌||◌, ◌&&◌, ◌==◌, nat_lt, append_assoc}
use Rattle.std.proofs.lemmas.Bool.{eqb-true, cases_Bool, and_parts, and_from, or_cases}
use Rattle.std.proofs.lemmas.Bool.Decides.{nat_tests}
use Rattle.std.specs.Char.{IsScalar, digit_value}
use Rattle.std.specs.Int.{is_in_range}
use Rattle.std.specs.Int.Digits.{number_from_digits_after}
use Rattle.std.specs.List.{list_all}
use lib.Utf8.{scalar}
use Rattle.literals.specs.Literals.{is_hex_digit, is_short_escape, is_code_sign, hex_digits, IsCode, IsEscape, short, seven_bits, code_point, IsAnyCharacter, any, is_plain}
use Rattle.literals.specs.Scanning.{begins_seven_bits, code_goes_on, begins_code_point, begins_escape, allows}
use Rattle.literals.specs.declared.strings.Escapes.{Escapes}
use Rattle.literals.specs.declared.strings.Escapes.TheVariants.{Listed, Any}
use Rattle.literals.proofs.RunLaws.{either, cond_true, cond_false}

-- ---- characters that an escape goes on with are plain
not_at : (p : ℕ → Bool) (c d : ℕ) → p c ≡ true → p d ≡ false → (c == d) ≡ false
not_at p c d h f = unequal (c == d) refl h f
  where
    unequal : (b : Bool) → (c == d) ≡ b → p c ≡ true → p d ≡ false → b ≡ false
    unequal true e h f = let same : true ≡ false = sym h ∙ ap p (eqb-true c d e) ∙ f in cc
    unequal false e h f = refl

plain_by : (p : ℕ → Bool) (c : ℕ) → p c ≡ true → p 34 ≡ false → p 92 ≡ false → is_plain c ≡ true
plain_by p c h e f = ap (λ v. not (v || (c == 92))) (not_at p c 34 h e) ∙ ap not (not_at p c 92 h f)

code_signs_plain : (cs : List ℕ) → list_all is_code_sign cs ≡ true → list_all is_plain cs ≡ true
code_signs_plain [] h = refl
code_signs_plain (c ∷ cs) h =
    let both = and_parts (is_code_sign c) (list_all is_code_sign cs) h in
    and_from (is_plain c) (list_all is_plain cs) (plain_by is_code_sign c both.0 refl refl) (code_signs_plain cs both.1)

plain_append : (xs ys : List ℕ) → list_all is_plain xs ≡ true → list_all is_plain ys ≡ true → list_all is_plain (xs ++ ys) ≡ true
plain_append [] ys h g = g
plain_append (x ∷ xs) ys h g =
    let both = and_parts (is_plain x) (list_all is_plain xs) h in
    and_from (is_plain x) (list_all is_plain (xs ++ ys)) both.0 (plain_append xs ys both.1 g)

-- ---- codes

-- the number that is left, after digits of that value
abbrev pub number_after : ℕ → List ℕ → ℕ
number_after value cs = number_from_digits_after 16 value (map digit_value (hex_digits cs))

pub hex_more : (c : ℕ) (cs : List ℕ) → is_hex_digit c ≡ true → hex_digits (c ∷ cs) ≡ c ∷ hex_digits cs
hex_more c cs h = cond_true (c ∷ hex_digits cs) (hex_digits cs) (is_hex_digit c) h

pub hex_same : (c : ℕ) (cs : List ℕ) → is_hex_digit c ≡ false → hex_digits (c ∷ cs) ≡ hex_digits cs
hex_same c cs h = cond_false (c ∷ hex_digits cs) (hex_digits cs) (is_hex_digit c) h

pub number_more : (value c : ℕ) (cs : List ℕ) → is_hex_digit c ≡ true → number_after value (c ∷ cs) ≡ number_after (value * 16 + digit_value c) cs
number_more value c cs h = ap (λ v. number_from_digits_after 16 value (map digit_value v)) (hex_more c cs h)

pub number_same : (value c : ℕ) (cs : List ℕ) → is_hex_digit c ≡ false → number_after value (c ∷ cs) ≡ number_after value cs
number_same value c cs h = ap (λ v. number_from_digits_after 16 value (map digit_value v)) (hex_same c cs h)

-- the code goes on with these signs, up to }
abbrev pub GoesOn : ℕ → ℕ → List ℕ → Type 0
GoesOn digits value cs = (front : List ℕ) × (more : List ℕ) × (cs ≡ front ++ 125 ∷ more) × (list_all is_code_sign front ≡ true) × (digits + length (hex_digits front) ≤ 6) × IsScalar (number_after value front)

unfoldable pub on_digit : (digits value c : ℕ) (cs : List ℕ) → is_hex_digit c ≡ true → GoesOn (digits + 1) (value * 16 + digit_value c) cs → GoesOn digits value (c ∷ cs)
on_digit digits value c cs h r = (
  c ∷ r.0,
  r.1,
  ap (λ v. c ∷ v) r.2,
  and_from (is_code_sign c) (list_all is_code_sign r.0) (ap (λ v. v || (c == 95)) h) r.3,
  omega (arith, r.4, ap length (hex_more c r.0 h)),
  ap scalar (number_more value c r.0 h) ∙ r.5,
)

unfoldable pub on_line : (digits value c : ℕ) (cs : List ℕ) → is_hex_digit c ≡ false → (c == 95) ≡ true → GoesOn digits value cs → GoesOn digits value (c ∷ cs)
on_line digits value c cs h g r = (
  c ∷ r.0,
  r.1,
  ap (λ v. c ∷ v) r.2,
  and_from (is_code_sign c) (list_all is_code_sign r.0) (ap (λ v. v || (c == 95)) h ∙ g) r.3,
  omega (arith, r.4, ap length (hex_same c r.0 h)),
  ap scalar (number_same value c r.0 h) ∙ r.5,
)

code_sound : (digits value : ℕ) (cs : List ℕ) → digits ≤ 6 → code_goes_on digits value cs ≡ true → GoesOn digits value cs
code_sound digits value [] l e = cc
code_sound digits value (c ∷ cs) l e =
    elim (either (is_hex_digit c) e) [
      | inl h ↦
          let both = and_parts (nat_lt digits 6) (code_goes_on (digits + 1) (value * 16 + digit_value c) cs) h.1 in
          let few : digits + 1 ≤ 6 = grind (arith, nat_tests, both.0) in
          on_digit digits value c cs h.0 (code_sound (digits + 1) (value * 16 + digit_value c) cs few both.1)
      | inr h ↦
          let both = and_parts (nat_lt 0 digits) (cond (c == 95) (code_goes_on digits value cs) ((c == 125) && scalar value)) h.1 in
          elim (either (c == 95) both.1) [
            | inl g ↦ on_line digits value c cs h.0 g.0 (code_sound digits value cs l g.1)
            | inr g ↦
                let ends = and_parts (c == 125) (scalar value) g.1 in
                let few : digits + 0 ≤ 6 = omega arith in ([], cs, ap (λ v. v ∷ cs) (eqb-true c 125 ends.0), refl, few, ends.1)
          ]
    ]

code_reads : (digits value : ℕ) (front more : List ℕ) → 0 < digits → list_all is_code_sign front ≡ true → digits + length (hex_digits front) ≤ 6 → IsScalar (number_after value front) → code_goes_on digits value (front ++ 125 ∷ more) ≡ true
code_reads digits value [] more p h l s =
    let some : nat_lt 0 digits ≡ true = grind (arith, nat_tests, p) in
    and_from (nat_lt 0 digits) (scalar value) some s
code_reads digits value (c ∷ cs) more p h l s =
    let signs = and_parts (is_code_sign c) (list_all is_code_sign cs) h in
    let ys = cs ++ 125 ∷ more in
    let on = code_goes_on (digits + 1) (value * 16 + digit_value c) ys in
    let past = cond (c == 95) (code_goes_on digits value ys) ((c == 125) && scalar value) in
    elim (cases_Bool (is_hex_digit c)) [
      | inl g ↦
          let few : (digits + 1) + length (hex_digits cs) ≤ 6 = omega (arith, l, ap length (hex_more c cs g)) in
          let less : nat_lt digits 6 ≡ true = grind (arith, nat_tests, few) in
          cond_true (nat_lt digits 6 && on) (nat_lt 0 digits && past) (is_hex_digit c) g
          ∙ and_from (nat_lt digits 6) on less (code_reads (digits + 1) (value * 16 + digit_value c) cs more (omega arith) signs.1 few (ap scalar (sym (number_more value c cs g)) ∙ s))
      | inr g ↦
          let line : (c == 95) ≡ true = sym (ap (λ v. v || (c == 95)) g) ∙ signs.0 in
          let some : nat_lt 0 digits ≡ true = grind (arith, nat_tests, p) in
          let few : digits + length (hex_digits cs) ≤ 6 = omega (arith, l, ap length (hex_same c cs g)) in
          cond_false (nat_lt digits 6 && on) (nat_lt 0 digits && past) (is_hex_digit c) g
          ∙ and_from (nat_lt 0 digits) past some (cond_true (code_goes_on digits value ys) ((c == 125) && scalar value) (c == 95) line ∙ code_reads digits value cs more p signs.1 few (ap scalar (sym (number_same value c cs g)) ∙ s))
    ]

-- ---- escapes

-- an escape begins with the character, and the rest of it is plain
abbrev pub EscapeFront : (List ℕ → Type 0) → ℕ → List ℕ → Type 0
EscapeFront IsEscaped c cs = (front : List ℕ) × (more : List ℕ) × (cs ≡ front ++ more) × (list_all is_plain front ≡ true) × IsEscaped (c ∷ front)

code_escape : (x : ℕ) (xs : List ℕ) → is_hex_digit x ≡ true → GoesOn 0 0 (x ∷ xs) → EscapeFront IsEscape 117 (123 ∷ x ∷ xs)
code_escape x xs h ([], more, e, signs, few, is_scalar) = let same : x ≡ 125 = cc in let none : is_hex_digit 125 ≡ true = sym (ap is_hex_digit same) ∙ h in cc
code_escape x xs h (y ∷ ys, more, e, signs, few, is_scalar) =
    let same : x ≡ y = cc in
    let digit : is_hex_digit y ≡ true = sym (ap is_hex_digit same) ∙ h in (
      123 ∷ ((y ∷ ys) ++ 125 ∷ []),
      more,
      ap (λ v. 123 ∷ v) (e ∙ sym (append_assoc (y ∷ ys) (125 ∷ []) more)),
      plain_append (y ∷ ys) (125 ∷ []) (code_signs_plain (y ∷ ys) signs) refl,
      code_point (y ∷ ys) (digit, (and_parts (is_code_sign y) (list_all is_code_sign ys) signs).1, omega (arith, few), is_scalar),
    )

code_point_sound : (cs : List ℕ) → begins_code_point cs ≡ true → EscapeFront IsEscape 117 cs
code_point_sound [] e = cc
code_point_sound (c ∷ []) e = let both = and_parts (c == 123) false e in let none : false ≡ true = both.1 in cc
code_point_sound (c ∷ x ∷ xs) e =
    let both = and_parts (c == 123) (code_goes_on 0 0 (x ∷ xs)) e in
    let few : (n : ℕ) → 0 ≤ n = λ n. omega arith in
    elim (either (is_hex_digit x) both.1) [
      | inl h ↦ subst (λ v. EscapeFront IsEscape 117 (v ∷ x ∷ xs)) (sym (eqb-true c 123 both.0)) (code_escape x xs h.0 (code_sound 0 0 (x ∷ xs) (few 6) both.1))
      | inr h ↦ let none : false ≡ true = h.1 in cc
    ]

seven_bits_sound : (cs : List ℕ) → begins_seven_bits cs ≡ true → EscapeFront IsEscape 120 cs
seven_bits_sound [] e = cc
seven_bits_sound (c ∷ []) e = let both = and_parts (is_in_range 48 55 c) false e in let none : false ≡ true = both.1 in cc
seven_bits_sound (c ∷ d ∷ ds) e =
    let both = and_parts (is_in_range 48 55 c) (is_hex_digit d) e in
    let high = plain_by (is_in_range 48 55) c both.0 refl refl in
    let low = plain_by is_hex_digit d both.1 refl refl in
    (c ∷ d ∷ [], ds, refl, and_from (is_plain c) (list_all is_plain (d ∷ [])) high (and_from (is_plain d) true low refl), seven_bits both.0 both.1)

escape_sound : (c : ℕ) (cs : List ℕ) → begins_escape (c ∷ cs) ≡ true → EscapeFront IsEscape c cs
escape_sound c cs e =
    elim (or_cases (is_short_escape c || ((c == 120) && begins_seven_bits cs)) ((c == 117) && begins_code_point cs) e) [
      | inr h ↦
          let both = and_parts (c == 117) (begins_code_point cs) h in
          subst (λ v. EscapeFront IsEscape v cs) (sym (eqb-true c 117 both.0)) (code_point_sound cs both.1)
      | inl h ↦
          elim (or_cases (is_short_escape c) ((c == 120) && begins_seven_bits cs) h) [
            | inl g ↦ ([], cs, refl, refl, short g)
            | inr g ↦
                let both = and_parts (c == 120) (begins_seven_bits cs) g in
                subst (λ v. EscapeFront IsEscape v cs) (sym (eqb-true c 120 both.0)) (seven_bits_sound cs both.1)
          ]
    ]

-- what the definition takes for an escape, of either kind of string
abbrev pub escape_of : Escapes → List ℕ → Type 0
escape_of Listed = IsEscape
escape_of Any = IsAnyCharacter

pub allowed_sound : (escapes : Escapes) (c : ℕ) (cs : List ℕ) → allows escapes (c ∷ cs) ≡ true → EscapeFront (escape_of escapes) c cs
allowed_sound Listed c cs e = escape_sound c cs e
allowed_sound Any c cs e = ([], cs, refl, refl, any)

-- an escape is allowed, whatever follows it, and is plain but for its first character
abbrev pub Allowed : Escapes → List ℕ → List ℕ → Type 0
Allowed escapes more [] = ⊥
Allowed escapes more (c ∷ cs) = (allows escapes (c ∷ (cs ++ more)) ≡ true) × (list_all is_plain cs ≡ true)

code_allowed : (code more : List ℕ) → IsCode code → Allowed Listed more (117 ∷ 123 ∷ (code ++ 125 ∷ []))
code_allowed [] more h = absurd h
code_allowed (x ∷ xs) more h =
    let signs : list_all is_code_sign (x ∷ xs) ≡ true = and_from (is_code_sign x) (list_all is_code_sign xs) (ap (λ v. v || (x == 95)) h.0) h.1 in
    let few : 1 + length (hex_digits xs) ≤ 6 = omega (arith, h.2, ap length (hex_more x xs h.0)) in
    let some : 0 < 1 = omega arith in
    let on : code_goes_on 1 (0 * 16 + digit_value x) (xs ++ 125 ∷ more) ≡ true = code_reads 1 (0 * 16 + digit_value x) xs more some h.1 few (ap scalar (sym (number_more 0 x xs h.0)) ∙ h.3) in (
      ap (λ v. code_goes_on 0 0 (x ∷ v)) (append_assoc xs (125 ∷ []) more) ∙ cond_true (code_goes_on 1 (0 * 16 + digit_value x) (xs ++ 125 ∷ more)) false (is_hex_digit x) h.0 ∙ on,
      plain_append (x ∷ xs) (125 ∷ []) (code_signs_plain (x ∷ xs) signs) refl,
    )

pub allowed_reads : (escapes : Escapes) (escape more : List ℕ) → escape_of escapes escape → Allowed escapes more escape
allowed_reads Any escape more any = (refl, refl)
allowed_reads Listed escape more (short {c = c} h) = (ap (λ v. v || ((c == 120) && begins_seven_bits more) || ((c == 117) && begins_code_point more)) h, refl)
allowed_reads Listed escape more (seven_bits {high = c} {low = d} h l) = (
  ap (λ v. v || ((120 == 117) && begins_code_point (c ∷ d ∷ more))) (and_from (is_in_range 48 55 c) (is_hex_digit d) h l),
  and_from (is_plain c) (list_all is_plain (d ∷ [])) (plain_by (is_in_range 48 55) c h refl refl) (and_from (is_plain d) true (plain_by is_hex_digit d l refl refl) refl),
)
allowed_reads Listed escape more (code_point code h) = code_allowed code more h

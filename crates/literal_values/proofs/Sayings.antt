-- What strings say: what is read is what the definition says, and no less.
use Rattle.std.proofs.Common.{◌≡◌, ◌∙◌, ◌+◌, ◌*◌, ◌<◌, ◌≤◌, ℕ, zero, suc, inl, inr, List, [], ◌∷◌, ◌++◌, length, replicate, refl, ap, sym, subst, arith, cond, true, false, not, ◌||◌, ◌&&◌, ◌==◌, nat_lt, Option, Some, None, IsSome, is_some, append_assoc, length-append}
use Rattle.std.proofs.lemmas.Bool.{eqb-true, ltb-true, cases_Bool, or_cases, and_parts, and_from}
use Rattle.std.proofs.lemmas.Bool.Decides.{nat_tests}
use Rattle.std.proofs.lemmas.List.{append-nil}
use Rattle.std.specs.Prelude.{chars, encode_utf8}
use Rattle.std.specs.Char.{digit_value}
use Rattle.std.specs.Int.{is_in_range}
use Rattle.std.proofs.lemmas.Str.{digit_value_digit}
use Rattle.std.specs.List.{flat_map, list_all}
use lib.Utf8.{scalar}
use Rattle.literals.specs.Literals.{is_hex_digit, is_code_sign, is_plain, hex_digits, IsCode, IsRawText, IsEscape, IsText}
use Rattle.literals.specs.Literals as grammar
use Rattle.literals.specs.Scanning.{after_hashes, first_of, after_raw_text, after_raw_string}
use Rattle.literals.proofs.Laws.{either, cond_true, cond_false, some_same, number_after, hex_more, hex_same, number_more, number_same, GoesOn, on_digit, on_line, hashes_read, raw_text_inside, no_hashes, raw_string_sound, plain_signs}
use Rattle.tokens.specs.declared.token.Token.{Token}
use Rattle.tokens.specs.declared.token.TokenKind.{TokenKind}
use Rattle.tokens.specs.declared.token.TokenKind.TheVariants as kind
use Rattle.literal_values.specs.Values.{put, ended, short_escapes, escaped_among, put_escaped, is_blank, unescaped, after_backslash, after_x, after_u, in_code, closed_or, raw_text, raw_string, string_value, text_among, text_value}
use Rattle.literal_values.specs.Strings.{begins_blank, code_number, Says, nothing, itself, short, seven_bits, code_point, continued, IsStringOf, escaped, raw, IsPlainString, IsTextOf}

put_parts : (c : ℕ) (rest : Option (List ℕ)) (text : List ℕ) → put c rest ≡ Some text → (more : List ℕ) × (rest ≡ Some more) × (encode_utf8 c ++ more ≡ text)
put_parts c None text e = cc
put_parts c (Some more) text e = (more, refl, some_same e)

ended_parts : (cs text : List ℕ) → ended cs ≡ Some text → (cs ≡ []) × ([] ≡ text)
ended_parts [] text e = (refl, some_same e)
ended_parts (c ∷ cs) text e = cc

-- neither " nor \
plain_from : (c : ℕ) → (c == 34) ≡ false → (c == 92) ≡ false → is_plain c ≡ true
plain_from c quote slash = ap (λ v. not (v || (c == 92))) quote ∙ ap not slash

-- ---- sound: codes
-- signs of a code up to }, the character of their number, and what follows
abbrev Coded : ℕ → ℕ → List ℕ → List ℕ → Type 0
Coded digits number cs text = (r : GoesOn digits number cs) × (put (number_after number r.0) (unescaped false r.1) ≡ Some text)

coded_digit : (digits number c : ℕ) (cs text : List ℕ) → is_hex_digit c ≡ true → Coded (digits + 1) (number * 16 + digit_value c) cs text → Coded digits number (c ∷ cs) text
unfolding on_digit
coded_digit digits number c cs text h r = (on_digit digits number c cs h r.0, ap (λ v. put v (unescaped false r.0.1)) (number_more number c r.0.0 h) ∙ r.1)

coded_line : (digits number c : ℕ) (cs text : List ℕ) → is_hex_digit c ≡ false → (c == 95) ≡ true → Coded digits number cs text → Coded digits number (c ∷ cs) text
unfolding on_line
coded_line digits number c cs text h g r = (on_line digits number c cs h g r.0, ap (λ v. put v (unescaped false r.0.1)) (number_same number c r.0.0 h) ∙ r.1)

code_sound : (digits number : ℕ) (cs text : List ℕ) → digits ≤ 6 → in_code digits number cs ≡ Some text → Coded digits number cs text
code_sound digits number [] text l e = cc
code_sound digits number (c ∷ cs) text l e =
    elim (either (is_hex_digit c) e) [
      | inl h ↦
          elim (either (nat_lt digits 6) h.1) [
            | inl k ↦ let few : digits + 1 ≤ 6 = grind (arith, nat_tests, k.0) in coded_digit digits number c cs text h.0 (code_sound (digits + 1) (number * 16 + digit_value c) cs text few k.1)
            | inr k ↦ cc
          ]
      | inr h ↦
          elim (either (nat_lt 0 digits) h.1) [
            | inl k ↦
                elim (either (c == 95) k.1) [
                  | inl g ↦ coded_line digits number c cs text h.0 g.0 (code_sound digits number cs text l g.1)
                  | inr g ↦
                      elim (either ((c == 125) && scalar number) g.1) [
                        | inl s ↦
                            let both = and_parts (c == 125) (scalar number) s.0 in
                            let few : digits + 0 ≤ 6 = omega arith in (([], cs, ap (λ v. v ∷ cs) (eqb-true c 125 both.0), refl, few, both.1), s.1)
                        | inr s ↦ cc
                      ]
                ]
            | inr k ↦ cc
          ]
    ]

-- ---- sound: strings with escapes
-- a text that says this, and the last quote
abbrev Quoted : List ℕ → List ℕ → Type 0
Quoted cs text = (inner : List ℕ) × (cs ≡ inner ++ 34 ∷ []) × Says inner text

not_blank : (c : ℕ) (cs inner : List ℕ) → c ∷ cs ≡ inner ++ 34 ∷ [] → is_blank c ≡ false → begins_blank inner ≡ false
not_blank c cs [] e h = refl
not_blank c cs (x ∷ xs) e h = let same : c ≡ x = cc in sym (ap is_blank same) ∙ h

module _ (n : ℕ) (again : (cs text : List ℕ) → length cs ≤ n → unescaped false cs ≡ Some text → Quoted cs text) where
  put_sound : (c : ℕ) (cs text : List ℕ) → length cs ≤ n → put c (unescaped false cs) ≡ Some text → (inner : List ℕ) × (more : List ℕ) × (cs ≡ inner ++ 34 ∷ []) × Says inner more × (encode_utf8 c ++ more ≡ text)
  put_sound c cs text l e = let p = put_parts c (unescaped false cs) text e in let q = again cs p.0 l p.1 in (q.0, p.0, q.1, q.2, p.2)

  itself_sound : (c : ℕ) (cs text : List ℕ) → length cs ≤ n → is_plain c ≡ true → put c (unescaped false cs) ≡ Some text → Quoted (c ∷ cs) text
  itself_sound c cs text l plain e = let q = put_sound c cs text l e in (c ∷ q.0, ap (λ v. c ∷ v) q.2, subst (λ v. Says (c ∷ q.0) v) q.4 (itself plain q.3))

  short_sound : (c : ℕ) (cs text : List ℕ) (o : Option ℕ) → length cs ≤ n → escaped_among c short_escapes ≡ o → put_escaped o (unescaped false cs) ≡ Some text → Quoted (92 ∷ c ∷ cs) text
  short_sound c cs text None l is e = cc
  short_sound c cs text (Some d) l is e = let q = put_sound d cs text l e in (92 ∷ c ∷ q.0, ap (λ v. 92 ∷ c ∷ v) q.2, subst (λ v. Says (92 ∷ c ∷ q.0) v) q.4 (short is q.3))

  x_sound : (cs text : List ℕ) → length cs ≤ n → after_x cs ≡ Some text → Quoted (92 ∷ 120 ∷ cs) text
  x_sound [] text l e = cc
  x_sound (high ∷ []) text l e = cc
  x_sound (high ∷ low ∷ cs) text l e =
      elim (either (nat_lt (digit_value high) 8 && is_hex_digit low) e) [
        | inl h ↦
            let both = and_parts (nat_lt (digit_value high) 8) (is_hex_digit low) h.0 in
            let less : length cs ≤ n = omega arith in
            let q = put_sound (digit_value high * 16 + digit_value low) cs text less h.1 in
            (92 ∷ 120 ∷ high ∷ low ∷ q.0, ap (λ v. 92 ∷ 120 ∷ high ∷ low ∷ v) q.2, subst (λ v. Says (92 ∷ 120 ∷ high ∷ low ∷ q.0) v) q.4 (seven_bits (ltb-true (digit_value high) 8 both.0) both.1 q.3))
        | inr h ↦ cc
      ]

  coded_sound : (x : ℕ) (xs text : List ℕ) → length xs ≤ n → is_hex_digit x ≡ true → Coded 0 0 (x ∷ xs) text → Quoted (92 ∷ 117 ∷ 123 ∷ x ∷ xs) text
  coded_sound x xs text l h (([], rest, e, signs, few, is_scalar), p) = let same : x ≡ 125 = cc in let none : is_hex_digit 125 ≡ true = sym (ap is_hex_digit same) ∙ h in cc
  coded_sound x xs text l h ((y ∷ ys, rest, e, signs, few, is_scalar), p) =
      let same : x ≡ y = cc in
      let digit : is_hex_digit y ≡ true = sym (ap is_hex_digit same) ∙ h in
      let less : length rest ≤ n = omega (arith, l, ap length e, length-append ys (125 ∷ rest)) in
      let q = put_sound (number_after 0 (y ∷ ys)) rest text less p in (
        92 ∷ 117 ∷ 123 ∷ ((y ∷ ys) ++ 125 ∷ q.0),
        ap (λ v. 92 ∷ 117 ∷ 123 ∷ v) (e ∙ ap (λ v. (y ∷ ys) ++ 125 ∷ v) q.2 ∙ sym (append_assoc (y ∷ ys) (125 ∷ q.0) (34 ∷ []))),
        subst (λ v. Says (92 ∷ 117 ∷ 123 ∷ ((y ∷ ys) ++ 125 ∷ q.0)) v) q.4 (code_point (y ∷ ys) (digit, (and_parts (is_code_sign y) (list_all is_code_sign ys) signs).1, omega (arith, few), is_scalar) q.3),
      )

  u_sound : (cs text : List ℕ) → length cs ≤ n → after_u cs ≡ Some text → Quoted (92 ∷ 117 ∷ cs) text
  u_sound [] text l e = cc
  u_sound (c ∷ []) text l e = elim (either (c == 123) e) [ inl h ↦ cc | inr h ↦ cc ]
  u_sound (c ∷ x ∷ xs) text l e =
      let few : (n : ℕ) → 0 ≤ n = λ n. omega arith in
      let less : length xs ≤ n = omega arith in
      elim (either (c == 123) e) [
        | inl h ↦
            subst (λ v. Quoted (92 ∷ 117 ∷ v ∷ x ∷ xs) text) (sym (eqb-true c 123 h.0))
            (elim (either (is_hex_digit x) h.1) [
              | inl k ↦ coded_sound x xs text less k.0 (code_sound 0 0 (x ∷ xs) text (few 6) h.1)
              | inr k ↦ cc
            ])
        | inr h ↦ cc
      ]

  skip_sound : (cs text : List ℕ) → length cs ≤ n → unescaped true cs ≡ Some text
      → (blanks : List ℕ) × (inner : List ℕ) × (cs ≡ blanks ++ (inner ++ 34 ∷ [])) × (list_all is_blank blanks ≡ true) × (begins_blank inner ≡ false) × Says inner text
  skip_sound [] text l e = cc
  skip_sound (c ∷ cs) text l e =
      let less : length cs ≤ n = omega arith in
      elim (either (is_blank c) e) [
        | inl h ↦ let r = skip_sound cs text less h.1 in (c ∷ r.0, r.1, ap (λ v. c ∷ v) r.2, and_from (is_blank c) (list_all is_blank r.0) h.0 r.3, r.4, r.5)
        | inr h ↦ let q = again (c ∷ cs) text l h.1 in ([], q.0, q.1, refl, not_blank c cs q.0 q.1 h.0, q.2)
      ]

  slash_sound : (cs text : List ℕ) → length cs ≤ n → after_backslash cs ≡ Some text → Quoted (92 ∷ cs) text
  slash_sound [] text l e = cc
  slash_sound (c ∷ cs) text l e =
      let less : length cs ≤ n = omega arith in
      elim (either (c == 10) e) [
        | inl h ↦
            let r = skip_sound cs text less h.1 in
            (92 ∷ 10 ∷ (r.0 ++ r.1), ap (λ v. 92 ∷ v ∷ cs) (eqb-true c 10 h.0) ∙ ap (λ v. 92 ∷ 10 ∷ v) (r.2 ∙ sym (append_assoc r.0 r.1 (34 ∷ []))), continued r.0 r.3 r.4 r.5)
        | inr h ↦
            elim (either (c == 120) h.1) [
              | inl g ↦ subst (λ v. Quoted (92 ∷ v ∷ cs) text) (sym (eqb-true c 120 g.0)) (x_sound cs text less g.1)
              | inr g ↦
                  elim (either (c == 117) g.1) [
                    | inl k ↦ subst (λ v. Quoted (92 ∷ v ∷ cs) text) (sym (eqb-true c 117 k.0)) (u_sound cs text less k.1)
                    | inr k ↦ short_sound c cs text (escaped_among c short_escapes) less refl k.1
                  ]
            ]
      ]

text_sound : (n : ℕ) (cs text : List ℕ) → length cs ≤ n → unescaped false cs ≡ Some text → Quoted cs text
text_sound n [] text l e = cc
text_sound zero (c ∷ cs) text l e = absurd (omega arith)
text_sound (suc n) (c ∷ cs) text l e =
    let less : length cs ≤ n = omega arith in
    elim (either (c == 34) e) [
      | inl h ↦ let end = ended_parts cs text h.1 in ([], ap (λ v. v ∷ cs) (eqb-true c 34 h.0) ∙ ap (λ v. 34 ∷ v) end.0, subst (λ v. Says [] v) end.1 nothing)
      | inr h ↦
          elim (either (c == 92) h.1) [
            | inl g ↦ subst (λ v. Quoted (v ∷ cs) text) (sym (eqb-true c 92 g.0)) (slash_sound n (text_sound n) cs text less g.1)
            | inr g ↦ itself_sound n (text_sound n) c cs text less (plain_from c h.0 g.0) g.1
          ]
    ]

-- ---- no less: strings with escapes
code_runs : (digits number : ℕ) (front us : List ℕ) → 0 < digits → list_all is_code_sign front ≡ true → digits + length (hex_digits front) ≤ 6 → scalar (number_after number front) ≡ true
    → in_code digits number (front ++ 125 ∷ us) ≡ put (number_after number front) (unescaped false us)
code_runs digits number [] us p h l s =
    let some : nat_lt 0 digits ≡ true = grind (arith, nat_tests, p) in
    cond_true (cond (scalar number) (put number (unescaped false us)) None) None (nat_lt 0 digits) some ∙ cond_true (put number (unescaped false us)) None (scalar number) s
code_runs digits number (c ∷ cs) us p h l s =
    let signs = and_parts (is_code_sign c) (list_all is_code_sign cs) h in
    let ys = cs ++ 125 ∷ us in
    let on = in_code (digits + 1) (number * 16 + digit_value c) ys in
    let past = cond (c == 95) (in_code digits number ys) (cond ((c == 125) && scalar number) (put number (unescaped false ys)) None) in
    elim (cases_Bool (is_hex_digit c)) [
      | inl g ↦
          let few : (digits + 1) + length (hex_digits cs) ≤ 6 = omega (arith, l, ap length (hex_more c cs g)) in
          let less : nat_lt digits 6 ≡ true = grind (arith, nat_tests, few) in
          cond_true (cond (nat_lt digits 6) on None) (cond (nat_lt 0 digits) past None) (is_hex_digit c) g
          ∙ cond_true on None (nat_lt digits 6) less
          ∙ code_runs (digits + 1) (number * 16 + digit_value c) cs us (omega arith) signs.1 few (ap scalar (sym (number_more number c cs g)) ∙ s)
          ∙ ap (λ v. put v (unescaped false us)) (sym (number_more number c cs g))
      | inr g ↦
          let line : (c == 95) ≡ true = sym (ap (λ v. v || (c == 95)) g) ∙ signs.0 in
          let some : nat_lt 0 digits ≡ true = grind (arith, nat_tests, p) in
          let few : digits + length (hex_digits cs) ≤ 6 = omega (arith, l, ap length (hex_same c cs g)) in
          cond_false (cond (nat_lt digits 6) on None) (cond (nat_lt 0 digits) past None) (is_hex_digit c) g
          ∙ cond_true past None (nat_lt 0 digits) some
          ∙ cond_true (in_code digits number ys) (cond ((c == 125) && scalar number) (put number (unescaped false ys)) None) (c == 95) line
          ∙ code_runs digits number cs us p signs.1 few (ap scalar (sym (number_same number c cs g)) ∙ s)
          ∙ ap (λ v. put v (unescaped false us)) (sym (number_same number c cs g))
    ]

code_reads : (code us : List ℕ) → IsCode code → in_code 0 0 (code ++ 125 ∷ us) ≡ put (code_number code) (unescaped false us)
code_reads [] us h = absurd h
code_reads (x ∷ xs) us h =
    let few : 1 + length (hex_digits xs) ≤ 6 = omega (arith, h.2, ap length (hex_more x xs h.0)) in
    let some : 0 < 1 = omega arith in
    cond_true (in_code 1 (0 * 16 + digit_value x) (xs ++ 125 ∷ us)) None (is_hex_digit x) h.0
    ∙ code_runs 1 (0 * 16 + digit_value x) xs us some h.1 few (ap scalar (sym (number_more 0 x xs h.0)) ∙ h.3)
    ∙ ap (λ v. put v (unescaped false us)) (sym (number_more 0 x xs h.0))

-- what stands for another character is none of these
not_short : (c d k : ℕ) → escaped_among c short_escapes ≡ Some d → escaped_among k short_escapes ≡ None → (c == k) ≡ false
not_short c d k is none =
    elim (cases_Bool (c == k)) [
      | inl h ↦ let never : None ≡ Some d = sym none ∙ ap (λ v. escaped_among v short_escapes) (sym (eqb-true c k h)) ∙ is in cc
      | inr h ↦ h
    ]

skip_runs : (blanks us : List ℕ) → list_all is_blank blanks ≡ true → unescaped true (blanks ++ us) ≡ unescaped true us
skip_runs [] us h = refl
skip_runs (c ∷ cs) us h =
    let both = and_parts (is_blank c) (list_all is_blank cs) h in
    cond_true (unescaped true (cs ++ us)) (unescaped false (c ∷ (cs ++ us))) (is_blank c) both.0 ∙ skip_runs cs us both.1

skip_ends : (cs : List ℕ) → begins_blank cs ≡ false → unescaped true (cs ++ 34 ∷ []) ≡ unescaped false (cs ++ 34 ∷ [])
skip_ends [] h = refl
skip_ends (c ∷ cs) h = cond_false (unescaped true (cs ++ 34 ∷ [])) (unescaped false (c ∷ (cs ++ 34 ∷ []))) (is_blank c) h

says_complete : {cs text : List ℕ} → Says cs text → unescaped false (cs ++ 34 ∷ []) ≡ Some text
says_complete nothing = refl
says_complete (itself {c = c} {cs = cs} h r) =
    let us = cs ++ 34 ∷ [] in
    let signs = plain_signs c h in
    cond_false (ended us) (cond (c == 92) (after_backslash us) (put c (unescaped false us))) (c == 34) signs.0
    ∙ cond_false (after_backslash us) (put c (unescaped false us)) (c == 92) signs.1
    ∙ ap (put c) (says_complete r)
says_complete (short {c = c} {d = d} {cs = cs} is r) =
    let us = cs ++ 34 ∷ [] in
    let told = put_escaped (escaped_among c short_escapes) (unescaped false us) in
    cond_false (unescaped true us) (cond (c == 120) (after_x us) (cond (c == 117) (after_u us) told)) (c == 10) (not_short c d 10 is refl)
    ∙ cond_false (after_x us) (cond (c == 117) (after_u us) told) (c == 120) (not_short c d 120 is refl)
    ∙ cond_false (after_u us) told (c == 117) (not_short c d 117 is refl)
    ∙ ap (λ o. put_escaped o (unescaped false us)) is
    ∙ ap (put d) (says_complete r)
says_complete (seven_bits {high = high} {low = low} {cs = cs} h l r) =
    let us = cs ++ 34 ∷ [] in
    let code = digit_value high * 16 + digit_value low in
    let octal : nat_lt (digit_value high) 8 ≡ true = grind (arith, nat_tests, h) in
    cond_true (put code (unescaped false us)) None (nat_lt (digit_value high) 8 && is_hex_digit low) (and_from (nat_lt (digit_value high) 8) (is_hex_digit low) octal l)
    ∙ ap (put code) (says_complete r)
says_complete (code_point {cs = cs} code is r) =
    ap (in_code 0 0) (append_assoc code (125 ∷ cs) (34 ∷ [])) ∙ code_reads code (cs ++ 34 ∷ []) is ∙ ap (put (code_number code)) (says_complete r)
says_complete (continued {cs = cs} blanks b ends r) =
    ap (unescaped true) (append_assoc blanks cs (34 ∷ [])) ∙ skip_runs blanks (cs ++ 34 ∷ []) b ∙ skip_ends cs ends ∙ says_complete r

-- ---- raw strings
found_end : (n c : ℕ) (cs text : List ℕ) (found : Option (List ℕ)) → closed_or found (put c (raw_text n cs)) ≡ Some text → ((more : List ℕ) → raw_text n cs ≡ Some more → after_raw_text n cs ≡ Some [])
    → first_of found (after_raw_text n cs) ≡ Some []
found_end n c cs text None e more = let p = put_parts c (raw_text n cs) text e in more p.0 p.1
found_end n c cs text (Some rest) e more = ap Some (ended_parts rest text e).0

raw_text_ends : (n : ℕ) (cs text : List ℕ) → raw_text n cs ≡ Some text → after_raw_text n cs ≡ Some []
raw_text_ends n [] text e = cc
raw_text_ends n (c ∷ cs) text e =
    let found = first_of (after_hashes n cs) (after_raw_text n cs) in
    elim (either (c == 34) e) [
      | inl h ↦ cond_true found (after_raw_text n cs) (c == 34) h.0 ∙ found_end n c cs text (after_hashes n cs) h.1 (raw_text_ends n cs)
      | inr h ↦ let p = put_parts c (raw_text n cs) text h.1 in cond_false found (after_raw_text n cs) (c == 34) h.0 ∙ raw_text_ends n cs p.0 p.1
    ]

raw_string_ends : (k : ℕ) (cs text : List ℕ) → raw_string k cs ≡ Some text → after_raw_string k cs ≡ Some []
raw_string_ends k [] text e = cc
raw_string_ends k (c ∷ cs) text e =
    let more = cond ((c == 35) && nat_lt k 255) (after_raw_string (k + 1) cs) None in
    elim (either (c == 34) e) [
      | inl h ↦ cond_true (after_raw_text k cs) more (c == 34) h.0 ∙ raw_text_ends k cs text h.1
      | inr h ↦
          elim (either ((c == 35) && nat_lt k 255) h.1) [
            | inl g ↦ cond_false (after_raw_text k cs) more (c == 34) h.0 ∙ cond_true (after_raw_string (k + 1) cs) None ((c == 35) && nat_lt k 255) g.0 ∙ raw_string_ends (k + 1) cs text g.1
            | inr g ↦ cc
          ]
    ]

raw_text_says : (n : ℕ) (cs : List ℕ) → IsRawText n cs → raw_text n (cs ++ 34 ∷ replicate n 35) ≡ Some (flat_map encode_utf8 cs)
raw_text_says n [] is = ap (λ v. closed_or v (put 34 (raw_text n (replicate n 35)))) (ap (after_hashes n) (sym (append-nil (replicate n 35))) ∙ hashes_read n [])
raw_text_says n (c ∷ cs) is =
    let us = cs ++ 34 ∷ replicate n 35 in
    let more = put c (raw_text n us) in
    let said : more ≡ Some (encode_utf8 c ++ flat_map encode_utf8 cs) = ap (put c) (raw_text_says n cs (raw_text_inside n c cs is)) in
    elim (cases_Bool (c == 34)) [
      | inl q ↦ cond_true (closed_or (after_hashes n us) more) more (c == 34) q ∙ ap (λ v. closed_or v more) (no_hashes n c cs (replicate n 35) is (eqb-true c 34 q) (after_hashes n us) refl) ∙ said
      | inr q ↦ cond_false (closed_or (after_hashes n us) more) more (c == 34) q ∙ said
    ]

raw_string_runs : (n k m : ℕ) (ys : List ℕ) → m ≡ k + n → m ≤ 255 → raw_string k (replicate n 35 ++ 34 ∷ ys) ≡ raw_text m ys
raw_string_runs zero k m ys e l = let same : k ≡ m = omega (arith, e) in ap (λ v. raw_text v ys) same
raw_string_runs (suc n) k m ys e l =
    let less : nat_lt k 255 ≡ true = grind (arith, nat_tests, e, l) in
    cond_true (raw_string (k + 1) (replicate n 35 ++ 34 ∷ ys)) None (nat_lt k 255) less ∙ raw_string_runs n (k + 1) m ys (omega (arith, e)) l

raw_complete : (n : ℕ) (cs : List ℕ) → n ≤ 255 → IsRawText n cs → raw_string 0 (replicate n 35 ++ 34 ∷ (cs ++ 34 ∷ replicate n 35)) ≡ Some (flat_map encode_utf8 cs)
raw_complete n cs l is =
    let none_before : (n : ℕ) → n ≡ 0 + n = λ n. omega arith in
    raw_string_runs n 0 n (cs ++ 34 ∷ replicate n 35) (none_before n) l ∙ raw_text_says n cs is

raw_sound : (cs text : List ℕ) → raw_string 0 cs ≡ Some text → IsStringOf (114 ∷ cs) text
raw_sound cs text e =
    let r = raw_string_sound cs [] (raw_string_ends 0 cs text e) in
    let f = r.2 in
    let here : cs ≡ replicate f.0 35 ++ 34 ∷ (f.1 ++ 34 ∷ replicate f.0 35) = r.1 ∙ append-nil r.0 ∙ f.4 in
    let said : text ≡ flat_map encode_utf8 f.1 = some_same (sym e ∙ ap (raw_string 0) here ∙ raw_complete f.0 f.1 f.2 f.3) in
    subst (λ v. IsStringOf (114 ∷ cs) v) (sym said) (subst (λ v. IsStringOf (114 ∷ v) (flat_map encode_utf8 f.1)) (sym here) (raw f.0 f.1 f.2 f.3))

-- ---- strings, and tokens
string_sound : (cs text : List ℕ) → string_value cs ≡ Some text → IsStringOf cs text
string_sound [] text e = cc
string_sound (c ∷ cs) text e =
    elim (either (c == 34) e) [
      | inl h ↦
          let q = text_sound (length cs) cs text (omega arith) h.1 in
          subst (λ v. IsStringOf (v ∷ cs) text) (sym (eqb-true c 34 h.0)) (subst (λ v. IsStringOf (34 ∷ v) text) (sym q.1) (escaped q.2))
      | inr h ↦
          elim (either (c == 114) h.1) [
            | inl g ↦ subst (λ v. IsStringOf (v ∷ cs) text) (sym (eqb-true c 114 g.0)) (raw_sound cs text g.1)
            | inr g ↦ cc
          ]
    ]

string_complete : {cs text : List ℕ} → IsStringOf cs text → string_value cs ≡ Some text
string_complete (escaped r) = says_complete r
string_complete (raw hashes cs l is) = raw_complete hashes cs l is

literal_among : (k : TokenKind) (cs text : List ℕ) → text_among k cs ≡ Some text → (k ≡ kind.Literal) × (string_value (chars cs) ≡ Some text)
literal_among kind.Literal cs text e = (refl, e)
literal_among _ cs text e = cc

pub text_is_said : (t : Token) (text : List ℕ) → text_value t ≡ Some text → IsTextOf t text
text_is_said t text e = let h = literal_among t.kind t.text text e in (h.0, string_sound (chars t.text) text h.1)

pub said_is_text : (t : Token) (text : List ℕ) → IsTextOf t text → text_value t ≡ Some text
said_is_text t text h = ap (λ k. text_among k t.text) h.0 ∙ string_complete h.1

-- ---- each string says a text
module _ (c : ℕ) where
  stands_for : (k d : ℕ) → escaped_among k short_escapes ≡ Some d → (c == k) ≡ true → (d : ℕ) × (escaped_among c short_escapes ≡ Some d)
  stands_for k d is e = (d, ap (λ v. escaped_among v short_escapes) (eqb-true c k e) ∙ is)

  short_stands : grammar.is_short_escape c ≡ true → (c == 10) ≡ false → (d : ℕ) × (escaped_among c short_escapes ≡ Some d)
  short_stands h n =
      elim (or_cases ((c == 110) || (c == 114) || (c == 116) || (c == 92) || (c == 48) || grammar.is_quote c) (c == 10) h) [
        | inr e ↦ let never : true ≡ false = sym e ∙ n in cc
        | inl h ↦ elim (or_cases ((c == 110) || (c == 114) || (c == 116) || (c == 92) || (c == 48)) (grammar.is_quote c) h) [
          | inr q ↦ elim (or_cases (c == 34) (c == 39) q) [ inl e ↦ stands_for 34 34 refl e | inr e ↦ stands_for 39 39 refl e ]
          | inl h ↦ elim (or_cases ((c == 110) || (c == 114) || (c == 116) || (c == 92)) (c == 48) h) [
            | inr e ↦ stands_for 48 0 refl e
            | inl h ↦ elim (or_cases ((c == 110) || (c == 114) || (c == 116)) (c == 92) h) [
              | inr e ↦ stands_for 92 92 refl e
              | inl h ↦ elim (or_cases ((c == 110) || (c == 114)) (c == 116) h) [
                | inr e ↦ stands_for 116 9 refl e
                | inl h ↦ elim (or_cases (c == 110) (c == 114) h) [ inl e ↦ stands_for 110 10 refl e | inr e ↦ stands_for 114 13 refl e ]
              ]
            ]
          ]
        ]
      ]

octal_digit : (c : ℕ) → is_in_range 48 55 c ≡ true → digit_value c < 8
octal_digit c h =
    let least : 48 ≤ c = grind (arith, nat_tests, h) in
    let most : c ≤ 55 = grind (arith, nat_tests, h) in omega (arith, digit_value_digit c (least, omega (arith, most)), most)

blanks_before : {cs : List ℕ} → IsText IsEscape cs → (blanks : List ℕ) × (inner : List ℕ) × (cs ≡ blanks ++ inner) × (list_all is_blank blanks ≡ true) × (begins_blank inner ≡ false) × IsText IsEscape inner
blanks_before grammar.empty = ([], [], refl, refl, refl, grammar.empty)
blanks_before (grammar.plain {c = c} {cs = cs} h r) =
    elim (cases_Bool (is_blank c)) [
      | inl b ↦ let s = blanks_before r in (c ∷ s.0, s.1, ap (λ v. c ∷ v) s.2, and_from (is_blank c) (list_all is_blank s.0) b s.3, s.4, s.5)
      | inr b ↦ ([], c ∷ cs, refl, refl, b, grammar.plain h r)
    ]
blanks_before (grammar.escaped {escape = escape} {cs = cs} h r) = ([], 92 ∷ (escape ++ cs), refl, refl, refl, grammar.escaped h r)

abbrev Said : List ℕ → Type 0
Said cs = (text : List ℕ) × Says cs text

escape_said : (n : ℕ) (escape us : List ℕ) → length us ≤ n → ((cs : List ℕ) → length cs ≤ n → IsText IsEscape cs → Said cs) → IsEscape escape → IsText IsEscape us → Said (92 ∷ (escape ++ us))
escape_said n escape us l again (grammar.short {c = c} h) r =
    elim (cases_Bool (c == 10)) [
      | inl e ↦
          let s = blanks_before r in
          let t = again s.1 (omega (arith, l, ap length s.2, length-append s.0 s.1)) s.5 in
          (t.0, subst (λ v. Says (92 ∷ v) t.0) (ap (λ v. 10 ∷ v) (sym s.2) ∙ ap (λ v. v ∷ us) (sym (eqb-true c 10 e))) (continued s.0 s.3 s.4 t.1))
      | inr e ↦ let d = short_stands c h e in let t = again us l r in (encode_utf8 d.0 ++ t.0, short d.1 t.1)
    ]
escape_said n escape us l again (grammar.seven_bits {high = high} {low = low} h k) r =
    let t = again us l r in (encode_utf8 (digit_value high * 16 + digit_value low) ++ t.0, seven_bits (octal_digit high h) k t.1)
escape_said n escape us l again (grammar.code_point code is) r =
    let t = again us l r in
    (encode_utf8 (code_number code) ++ t.0, subst (λ v. Says (92 ∷ 117 ∷ 123 ∷ v) (encode_utf8 (code_number code) ++ t.0)) (sym (append_assoc code (125 ∷ []) us)) (code_point code is t.1))

text_said : (n : ℕ) (cs : List ℕ) → length cs ≤ n → IsText IsEscape cs → Said cs
text_said n cs l grammar.empty = ([], nothing)
text_said zero cs l (grammar.plain h r) = absurd (omega arith)
text_said zero cs l (grammar.escaped h r) = absurd (omega arith)
text_said (suc n) cs l (grammar.plain {c = c} {cs = us} h r) = let t = text_said n us (omega arith) r in (encode_utf8 c ++ t.0, itself h t.1)
text_said (suc n) cs l (grammar.escaped {escape = escape} {cs = us} h r) = escape_said n escape us (omega (arith, l, length-append escape us)) (text_said n) h r

string_said : (cs : List ℕ) → IsPlainString cs → (text : List ℕ) × IsStringOf cs text
string_said cs (inl s) = let t = text_said (length s.0) s.0 (omega arith) s.2 in (t.0, subst (λ v. IsStringOf v t.0) (sym s.1) (escaped t.1))
string_said cs (inr r) =
    let f = r.2 in
    (flat_map encode_utf8 f.1, subst (λ v. IsStringOf v (flat_map encode_utf8 f.1)) (sym (r.1 ∙ ap (λ v. 114 ∷ v) f.4)) (raw f.0 f.1 f.2 f.3))

pub strings_have_texts : (t : Token) → t.kind ≡ kind.Literal → IsPlainString (chars t.text) → IsSome (text_value t)
strings_have_texts t k s = let said = string_said (chars t.text) s in ap is_some (said_is_text t said.0 (k, said.1))

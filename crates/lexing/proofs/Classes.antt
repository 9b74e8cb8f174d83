-- What a character may begin, by its tests: no two of them hold of one character.
use Rattle.std.proofs.Common.{◌≡◌, ℕ, ◌<◌, ◌⊎◌, inl, inr, List, [], ◌∷◌, refl, ap, ◌∙◌, arith, cond, Bool, true, false, not, ◌||◌, ◌==◌}
use Rattle.std.proofs.lemmas.Bool.{eqb-true, and_parts, or_cases, not-true}
use Rattle.std.proofs.lemmas.Bool.Decides.{nat_tests}
use Rattle.std.specs.Char.{is_ascii_alphabetic}
use Rattle.std.specs.Int.{is_in_range}
use Rattle.std.specs.List.{list_all, list_any}
use Rattle.unicode_ident.specs.Ident.{is_xid_continue}
use Rattle.unicode_ident.proofs.IdentLemmas.{is_xid_start-ascii}
use Rattle.unicode_ident.proofs.Computing.{unicode_ident}
use Rattle.literals.specs.Literals.{is_quote, begins_literal, starts_name}
use Rattle.tokens.specs.declared.token.Bracket.{Bracket}
use Rattle.tokens.specs.declared.token.Bracket.TheVariants.{Round, Square, Curly}
use Rattle.lexing.specs.declared.scan.Class.{Class}
use Rattle.lexing.specs.declared.scan.Class.TheVariants.{White, Slash, Colon, Sign, Quote, NameStart, Opens, Closes, Other}
use Rattle.lexing.specs.Pieces.{quote, slash, is_white, signs, is_sign, opening, closing}
use Rattle.lexing.specs.Scanning.{bracket_class, class_of}

-- ---- a character of the class passes its test
abbrev pub Begins : Class → ℕ → Type 0
Begins White c = is_white c ≡ true
Begins Slash c = c ≡ slash
Begins Colon c = c ≡ 58
Begins Sign c = is_sign c ≡ true
Begins Quote c = c ≡ quote
Begins NameStart c = starts_name c ≡ true
Begins (Opens b) c = c ≡ opening b
Begins (Closes b) c = c ≡ closing b
Begins Other c = Unit {0}

choose : (P : Class → Type 0) (b : Bool) (x y : Class) → (b ≡ true → P x) → (b ≡ false → P y) → P (cond b x y)
choose P true x y f g = f refl
choose P false x y f g = g refl

bracket_begins : (c : ℕ) → Begins (bracket_class c) c
bracket_begins c =
    let P : Class → Type 0 = λ x. Begins x c in
    choose P (c == 40) _ _ (eqb-true c 40) (λ _.
    choose P (c == 91) _ _ (eqb-true c 91) (λ _.
    choose P (c == 123) _ _ (eqb-true c 123) (λ _.
    choose P (c == 41) _ _ (eqb-true c 41) (λ _.
    choose P (c == 93) _ _ (eqb-true c 93) (λ _.
    choose P (c == 125) _ _ (eqb-true c 125) (λ _. tt))))))

pub class_begins : (c : ℕ) → Begins (class_of c) c
unfolding class_of
class_begins c =
    let P : Class → Type 0 = λ x. Begins x c in
    choose P (is_white c) _ _ (λ h. h) (λ _.
    choose P (starts_name c) _ _ (λ h. h) (λ _.
    choose P (c == slash) _ _ (eqb-true c slash) (λ _.
    choose P (c == 58) _ _ (eqb-true c 58) (λ _.
    choose P (c == quote) _ _ (eqb-true c quote) (λ _.
    choose P (is_sign c) _ _ (λ h. h) (λ _. bracket_begins c))))))

-- ---- and the other way round
at_number : (q : ℕ → Bool) (c d : ℕ) → (c == d) ≡ true → q d ≡ false → q c ≡ false
at_number q c d e h = ap q (eqb-true c d e) ∙ h

-- what fails of each white character fails of a white one
white_fails : (q : ℕ → Bool) (c : ℕ) → (is_in_range 9 13 c ≡ true → q c ≡ false) → q 0x20 ≡ false → q 0x85 ≡ false → q 0x200E ≡ false → q 0x200F ≡ false → q 0x2028 ≡ false → q 0x2029 ≡ false
    → is_white c ≡ true → q c ≡ false
white_fails q c h0 h1 h2 h3 h4 h5 h6 h =
    elim (or_cases (is_in_range 9 13 c || (c == 0x20) || (c == 0x85) || (c == 0x200E) || (c == 0x200F) || (c == 0x2028)) (c == 0x2029) h) [
      | inr e ↦ at_number q c 0x2029 e h6
      | inl k5 ↦
          elim (or_cases (is_in_range 9 13 c || (c == 0x20) || (c == 0x85) || (c == 0x200E) || (c == 0x200F)) (c == 0x2028) k5) [
            | inr e ↦ at_number q c 0x2028 e h5
            | inl k4 ↦
                elim (or_cases (is_in_range 9 13 c || (c == 0x20) || (c == 0x85) || (c == 0x200E)) (c == 0x200F) k4) [
                  | inr e ↦ at_number q c 0x200F e h4
                  | inl k3 ↦
                      elim (or_cases (is_in_range 9 13 c || (c == 0x20) || (c == 0x85)) (c == 0x200E) k3) [
                        | inr e ↦ at_number q c 0x200E e h3
                        | inl k2 ↦
                            elim (or_cases (is_in_range 9 13 c || (c == 0x20)) (c == 0x85) k2) [
                              | inr e ↦ at_number q c 0x85 e h2
                              | inl k1 ↦
                                  elim (or_cases (is_in_range 9 13 c) (c == 0x20) k1) [
                                    | inr e ↦ at_number q c 0x20 e h1
                                    | inl k0 ↦ h0 k0
                                  ]
                            ]
                      ]
                ]
          ]
    ]

letter_free : (c : ℕ) → is_in_range 9 13 c ≡ true → ((c == 95) || is_ascii_alphabetic c) ≡ false
letter_free c h = grind (arith, nat_tests)

control_no_name : (c : ℕ) → is_in_range 9 13 c ≡ true → starts_name c ≡ false
control_no_name c h =
    let small : c < 128 = grind (arith, nat_tests) in
    ap (λ v. (c == 95) || v) (is_xid_start-ascii c small) ∙ letter_free c h

control_no_literal : (c : ℕ) → is_in_range 9 13 c ≡ true → begins_literal c ≡ false
control_no_literal c h = grind (arith, nat_tests)

white_no_name : (c : ℕ) → is_white c ≡ true → starts_name c ≡ false
unfolding unicode_ident
white_no_name c h = white_fails starts_name c (control_no_name c) refl refl refl refl refl refl h

pub white_no_literal : (c : ℕ) → is_white c ≡ true → begins_literal c ≡ false
white_no_literal c h = white_fails begins_literal c (control_no_literal c) refl refl refl refl refl refl h

pub white_class : (c : ℕ) → is_white c ≡ true → class_of c ≡ White
unfolding class_of
white_class c h =
    ap (λ v. cond v White (cond (starts_name c) NameStart (cond (c == slash) Slash (cond (c == 58) Colon (cond (c == quote) Quote (cond (is_sign c) Sign (bracket_class c))))))) h

name_not_white : (c : ℕ) (b : Bool) → is_white c ≡ b → starts_name c ≡ true → b ≡ false
name_not_white c true w h = let none = white_no_name c w in cc
name_not_white c false w h = refl

pub name_class : (c : ℕ) → starts_name c ≡ true → class_of c ≡ NameStart
unfolding class_of
name_class c h =
    let other : Class = cond (c == slash) Slash (cond (c == 58) Colon (cond (c == quote) Quote (cond (is_sign c) Sign (bracket_class c)))) in
    ap (λ v. cond v White (cond (starts_name c) NameStart other)) (name_not_white c (is_white c) refl h) ∙ ap (λ v. cond v NameStart other) h

pub slash_class : class_of slash ≡ Slash
unfolding unicode_ident class_of
slash_class = refl

pub colon_class : class_of 58 ≡ Colon
unfolding unicode_ident class_of
colon_class = refl

pub quote_class : class_of quote ≡ Quote
unfolding unicode_ident class_of
quote_class = refl

pub opening_class : (b : Bracket) → class_of (opening b) ≡ Opens b
unfolding unicode_ident class_of
opening_class Round = refl
opening_class Square = refl
opening_class Curly = refl

pub closing_class : (b : Bracket) → class_of (closing b) ≡ Closes b
unfolding unicode_ident class_of
closing_class Round = refl
closing_class Square = refl
closing_class Curly = refl

pub opening_no_literal : (b : Bracket) → begins_literal (opening b) ≡ false
opening_no_literal Round = refl
opening_no_literal Square = refl
opening_no_literal Curly = refl

pub closing_no_literal : (b : Bracket) → begins_literal (closing b) ≡ false
closing_no_literal Round = refl
closing_no_literal Square = refl
closing_no_literal Curly = refl

-- ---- signs
-- what holds of each of some numbers holds of one of them
pub any_of : (q : ℕ → Bool) (c : ℕ) (ds : List ℕ) → list_all q ds ≡ true → list_any (λ d. c == d) ds ≡ true → q c ≡ true
any_of q c [] h e = cc
any_of q c (d ∷ ds) h e =
    let both = and_parts (q d) (list_all q ds) h in
    elim (or_cases (c == d) (list_any (λ d. c == d) ds) e) [
      | inl k ↦ ap q (eqb-true c d k) ∙ both.0
      | inr k ↦ any_of q c ds both.1 k
    ]

is_sign_class : Class → Bool
is_sign_class Sign = true
is_sign_class _ = false

sign_class_is : (x : Class) → is_sign_class x ≡ true → x ≡ Sign
unfolding is_sign_class
sign_class_is Sign h = refl
sign_class_is White h = cc
sign_class_is Slash h = cc
sign_class_is Colon h = cc
sign_class_is Quote h = cc
sign_class_is NameStart h = cc
sign_class_is (Opens b) h = cc
sign_class_is (Closes b) h = cc
sign_class_is Other h = cc

begins_sign : ℕ → Bool
begins_sign c = (c == slash) || (c == 58) || is_sign_class (class_of c)

each_begins_sign : list_all begins_sign signs ≡ true
unfolding unicode_ident class_of is_sign_class begins_sign
each_begins_sign = refl

pub sign_class : (c : ℕ) → is_sign c ≡ true → (c ≡ slash) ⊎ (c ≡ 58) ⊎ (class_of c ≡ Sign)
unfolding begins_sign
sign_class c h =
    elim (or_cases ((c == slash) || (c == 58)) (is_sign_class (class_of c)) (any_of begins_sign c signs each_begins_sign h)) [
      | inr e ↦ inr (inr (sign_class_is (class_of c) e))
      | inl e ↦
          elim (or_cases (c == slash) (c == 58) e) [
            | inl k ↦ inl (eqb-true c slash k)
            | inr k ↦ inr (inl (eqb-true c 58 k))
          ]
    ]

no_literal : ℕ → Bool
no_literal c = not (begins_literal c)

each_no_literal : list_all no_literal signs ≡ true
unfolding no_literal
each_no_literal = refl

pub sign_no_literal : (c : ℕ) → is_sign c ≡ true → begins_literal c ≡ false
unfolding no_literal
sign_no_literal c h = not-true (begins_literal c) (any_of no_literal c signs each_no_literal h)

-- ---- words hold neither quotes nor digits at their front
quote_fails : (q : ℕ → Bool) (c : ℕ) → q 34 ≡ false → q 39 ≡ false → q c ≡ true → (b : Bool) → is_quote c ≡ b → b ≡ false
quote_fails q c f g h false e = refl
quote_fails q c f g h true e =
    elim (or_cases (c == 34) (c == 39) e) [
      | inl k ↦ let no = at_number q c 34 k f in cc
      | inr k ↦ let no = at_number q c 39 k g in cc
    ]

pub name_no_quote : (c : ℕ) → starts_name c ≡ true → is_quote c ≡ false
unfolding unicode_ident
name_no_quote c h = quote_fails starts_name c refl refl h (is_quote c) refl

pub word_no_quote : (c : ℕ) → is_xid_continue c ≡ true → is_quote c ≡ false
unfolding unicode_ident
word_no_quote c h = quote_fails is_xid_continue c refl refl h (is_quote c) refl

pub hash_no_word : is_xid_continue 35 ≡ false
unfolding unicode_ident
hash_no_word = refl

pub r_starts_name : starts_name 114 ≡ true
unfolding unicode_ident
r_starts_name = refl

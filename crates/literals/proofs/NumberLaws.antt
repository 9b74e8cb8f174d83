-- Numbers: the scanner and the definition.
use Rattle.std.proofs.Common.{◌≡◌, ℕ, ◌≤◌, ◌<◌, inl, inr, List, [], ◌∷◌, ◌++◌, length, refl, ap, sym, subst, ◌∙◌, arith, Bool, true, false, not, ◌||◌, ◌&&◌, ◌==◌, append_assoc}
use Rattle.std.proofs.lemmas.Bool.{eqb-true, cases_Bool, and_parts, and_from, or_cases}
use Rattle.std.proofs.lemmas.Bool.Decides.{nat_tests}
use Rattle.std.specs.Char.{is_ascii_alphabetic, is_ascii_alphanumeric}
use Rattle.std.specs.Int.{is_in_range}
use Rattle.std.specs.List.{list_all}
use Rattle.unicode_ident.specs.Ident.{is_xid_start, is_xid_continue}
use Rattle.unicode_ident.proofs.IdentLemmas.{is_xid_start-ascii, is_xid_continue-ascii, is_xid_start-is_xid_continue}
use Rattle.unicode_ident.proofs.Computing.{unicode_ident}
use Rattle.literals.specs.Literals.{is_digit, starts_name, IsDigits, IsPlainNumber, whole, pointed, is_base, is_decimal, last, is_e, ends_in_e, is_sign, IsNumber, plain, signed, IsSuffix}
use Rattle.literals.specs.Scanning.{skip, last_of_word, begins_with, after_exponent, after_fraction, after_number, after_suffix}
use Rattle.literals.proofs.RunLaws.{cond_true, cond_false, skip_more, skip_split, skip_short, skip_least, skip_exact, word_split, word_more, word_exact}

-- ---- characters
digit_small : (c : ℕ) → is_digit c ≡ true → c < 128
digit_small c h = grind (arith, nat_tests)

digit_letter : (c : ℕ) → is_digit c ≡ true → (is_ascii_alphanumeric c || (c == 95)) ≡ true
digit_letter c h = ap (λ v. ((v || is_in_range 65 90 c) || is_in_range 97 122 c) || (c == 95)) h

pub digit_continues : (c : ℕ) → is_digit c ≡ true → is_xid_continue c ≡ true
digit_continues c h = is_xid_continue-ascii c (digit_small c h) ∙ digit_letter c h

no_letter : (c : ℕ) → is_digit c ≡ true → ((c == 95) || is_ascii_alphabetic c) ≡ false
no_letter c h = grind (arith, nat_tests)

digit_no_name : (c : ℕ) → is_digit c ≡ true → starts_name c ≡ false
digit_no_name c h = ap (λ v. (c == 95) || v) (is_xid_start-ascii c (digit_small c h)) ∙ no_letter c h

pub name_no_digit : (c : ℕ) → starts_name c ≡ true → is_digit c ≡ false
name_no_digit c h = elim (cases_Bool (is_digit c)) [
  | inl d ↦ let both : true ≡ false = sym h ∙ digit_no_name c d in cc
  | inr d ↦ d
]

name_continues : (c : ℕ) → starts_name c ≡ true → is_xid_continue c ≡ true
unfolding unicode_ident
name_continues c h =
    elim (or_cases (c == 95) (is_xid_start c) h) [
      | inl line ↦ ap is_xid_continue (eqb-true c 95 line)
      | inr start ↦ is_xid_start-is_xid_continue c start
    ]

point_ends : is_xid_continue 46 ≡ false
unfolding unicode_ident
point_ends = refl

sign_ends : (c : ℕ) → is_sign c ≡ true → is_xid_continue c ≡ false
unfolding unicode_ident
sign_ends c h =
    elim (or_cases (c == 43) (c == 45) h) [
      | inl e ↦ ap is_xid_continue (eqb-true c 43 e)
      | inr e ↦ ap is_xid_continue (eqb-true c 45 e)
    ]

sign_no_base : (c : ℕ) → is_sign c ≡ true → is_base c ≡ false
sign_no_base c h =
    elim (or_cases (c == 43) (c == 45) h) [
      | inl e ↦ ap is_base (eqb-true c 43 e)
      | inr e ↦ ap is_base (eqb-true c 45 e)
    ]

sign_no_point : (c : ℕ) → is_sign c ≡ true → (c == 46) ≡ false
sign_no_point c h =
    elim (or_cases (c == 43) (c == 45) h) [
      | inl e ↦ ap (λ v. v == 46) (eqb-true c 43 e)
      | inr e ↦ ap (λ v. v == 46) (eqb-true c 45 e)
    ]

-- ---- the base is seen from the front of a number
decimal_front : (c : ℕ) (xs ys : List ℕ) → is_decimal (c ∷ (xs ++ ys)) ≡ true → is_decimal (c ∷ xs) ≡ true
decimal_front c [] ys h = refl
decimal_front c (x ∷ xs) ys h = h

decimal_alike : (c p : ℕ) (xs ys zs : List ℕ) → is_decimal (c ∷ (xs ++ p ∷ ys)) ≡ is_decimal (c ∷ (xs ++ p ∷ zs))
decimal_alike c p [] ys zs = refl
decimal_alike c p (x ∷ xs) ys zs = refl

no_base : (a b : Bool) → b ≡ false → not (a && b) ≡ true
no_base true b e = ap not e
no_base false b e = refl

decimal_signed : (c s : ℕ) (xs ys : List ℕ) → is_sign s ≡ true → is_decimal (c ∷ xs) ≡ true → is_decimal (c ∷ (xs ++ s ∷ ys)) ≡ true
decimal_signed c s [] ys h d = no_base (c == 48) (is_base s) (sign_no_base s h)
decimal_signed c s (x ∷ xs) ys h d = d

last_after : (c : ℕ) (xs : List ℕ) (p d : ℕ) (ds : List ℕ) → last c (xs ++ p ∷ d ∷ ds) ≡ last d ds
last_after c [] p d ds = refl
last_after c (x ∷ xs) p d ds = last_after x xs p d ds

-- ---- what the scanner takes is a number
abbrev Front : (List ℕ → Type 0) → List ℕ → List ℕ → Type 0
Front P text rest = (front : List ℕ) × (text ≡ front ++ rest) × P front

-- where the number so far takes an exponent, it may have one
abbrev TakesExponent : Bool → ℕ → List ℕ → Type 0
TakesExponent decimal before number = decimal ≡ true → is_e before ≡ true → (is_decimal number ≡ true) × (ends_in_e number ≡ true)

exponent_digits : (number : List ℕ) (s : ℕ) (cs : List ℕ) → IsPlainNumber number → is_decimal number ≡ true → ends_in_e number ≡ true → is_sign s ≡ true → begins_with is_digit cs ≡ true → Front IsNumber (number ++ s ∷ cs) (skip is_digit cs)
exponent_digits number s [] n d e h b = let none : false ≡ true = b in cc
exponent_digits number s (c ∷ cs) n d e h b =
    let run = skip_split is_digit cs in
    let here : cs ≡ run.0 ++ skip is_digit (c ∷ cs) = run.1 ∙ ap (λ v. run.0 ++ v) (sym (skip_more is_digit c cs b)) in
    let digits : list_all is_digit (c ∷ run.0) ≡ true = and_from (is_digit c) (list_all is_digit run.0) b run.2 in (
      number ++ s ∷ c ∷ run.0,
      ap (λ v. number ++ s ∷ c ∷ v) here ∙ sym (append_assoc number (s ∷ c ∷ run.0) (skip is_digit (c ∷ cs))),
      signed s c run.0 n d e h digits,
    )

exponent_sound : (number : List ℕ) (decimal : Bool) (before : ℕ) (cs : List ℕ) → IsPlainNumber number → TakesExponent decimal before number → Front IsNumber (number ++ cs) (after_exponent decimal before cs)
exponent_sound number decimal before [] n t = (number, refl, plain n)
exponent_sound number decimal before (s ∷ cs) n t =
    let test = decimal && is_e before && is_sign s && begins_with is_digit cs in
    elim (cases_Bool test) [
      | inl h ↦
          let digits = and_parts (decimal && is_e before && is_sign s) (begins_with is_digit cs) h in
          let sign = and_parts (decimal && is_e before) (is_sign s) digits.0 in
          let ends = and_parts decimal (is_e before) sign.0 in
          let takes = t ends.0 ends.1 in
          subst (Front IsNumber (number ++ s ∷ cs)) (sym (cond_true (skip is_digit cs) (s ∷ cs) test h)) (exponent_digits number s cs n takes.0 takes.1 sign.1 digits.1)
      | inr h ↦ subst (Front IsNumber (number ++ s ∷ cs)) (sym (cond_false (skip is_digit cs) (s ∷ cs) test h)) (number, refl, plain n)
    ]

fraction_digits : (c : ℕ) (xs ds : List ℕ) → IsDigits (c ∷ xs) → begins_with is_digit ds ≡ true
    → Front IsNumber ((c ∷ xs) ++ 46 ∷ ds) (after_exponent (is_decimal (c ∷ (xs ++ 46 ∷ ds))) (last_of_word 46 ds) (skip is_xid_continue ds))
fraction_digits c xs [] w b = let none : false ≡ true = b in cc
fraction_digits c xs (d ∷ ds) w b =
    let run = word_split d ds in
    let on = digit_continues d b in
    let decimal = is_decimal (c ∷ (xs ++ 46 ∷ d ∷ ds)) in
    let number = (c ∷ xs) ++ 46 ∷ d ∷ run.0 in
    let left = skip is_xid_continue (d ∷ ds) in
    let here : (c ∷ xs) ++ 46 ∷ d ∷ ds ≡ number ++ left =
    ap (λ v. (c ∷ xs) ++ 46 ∷ d ∷ v) (run.1 ∙ ap (λ v. run.0 ++ v) (sym (skip_more is_xid_continue d ds on))) ∙ sym (append_assoc (c ∷ xs) (46 ∷ d ∷ run.0) left) in
    let before : last_of_word 46 (d ∷ ds) ≡ last d run.0 = word_more 46 d ds on ∙ run.3 in
    let takes : TakesExponent decimal (last_of_word 46 (d ∷ ds)) number =
    λ h e. (decimal_alike c 46 xs (d ∷ run.0) (d ∷ ds) ∙ h, ap is_e (last_after c xs 46 d run.0 ∙ sym before) ∙ e) in
    let n : IsPlainNumber number = pointed (c ∷ xs) (d ∷ run.0) w (b, run.2) in
    let r = exponent_sound number decimal (last_of_word 46 (d ∷ ds)) left n takes in (r.0, here ∙ r.1, r.2)

fraction_sound : (c : ℕ) (xs ys : List ℕ) → IsDigits (c ∷ xs) → Front IsNumber ((c ∷ xs) ++ ys) (after_fraction (is_decimal (c ∷ (xs ++ ys))) (last c xs) ys)
fraction_sound c xs [] w = ((c ∷ xs), refl, plain (whole w))
fraction_sound c xs (p ∷ ps) w =
    let decimal = is_decimal (c ∷ (xs ++ p ∷ ps)) in
    let test = (p == 46) && begins_with is_digit ps in
    let more = after_exponent decimal (last_of_word p ps) (skip is_xid_continue ps) in
    let less = after_exponent decimal (last c xs) (p ∷ ps) in
    elim (cases_Bool test) [
      | inl h ↦
          let both = and_parts (p == 46) (begins_with is_digit ps) h in
          let point : 46 ≡ p = sym (eqb-true p 46 both.0) in
          subst (Front IsNumber ((c ∷ xs) ++ p ∷ ps)) (sym (cond_true more less test h))
          (subst (λ v. Front IsNumber ((c ∷ xs) ++ v ∷ ps) (after_exponent (is_decimal (c ∷ (xs ++ v ∷ ps))) (last_of_word v ps) (skip is_xid_continue ps))) point (fraction_digits c xs ps w both.1))
      | inr h ↦
          subst (Front IsNumber ((c ∷ xs) ++ p ∷ ps)) (sym (cond_false more less test h))
          (exponent_sound (c ∷ xs) decimal (last c xs) (p ∷ ps) (whole w) (λ d e. (decimal_front c xs (p ∷ ps) d, e)))
    ]

pub number_sound : (c : ℕ) (cs : List ℕ) → is_digit c ≡ true → Front IsNumber (c ∷ cs) (after_number c cs)
number_sound c cs h =
    let run = word_split c cs in
    let left = skip is_xid_continue cs in
    let r = fraction_sound c run.0 left (h, run.2) in
    let same : after_fraction (is_decimal (c ∷ (run.0 ++ left))) (last c run.0) left ≡ after_number c cs =
    ap (λ v. after_fraction (is_decimal (c ∷ v)) (last c run.0) left) (sym run.1) ∙ ap (λ v. after_fraction (is_decimal (c ∷ cs)) v left) (sym run.3) in
    (r.0, ap (λ v. c ∷ v) run.1 ∙ r.1 ∙ ap (λ v. r.0 ++ v) same, r.2)

-- ---- whatever number begins a text, the scanner reads no less of it
exponent_short : (decimal : Bool) (before : ℕ) (cs : List ℕ) → length (after_exponent decimal before cs) ≤ length cs
exponent_short decimal before [] = omega arith
exponent_short decimal before (s ∷ cs) =
    let test = decimal && is_e before && is_sign s && begins_with is_digit cs in
    elim (cases_Bool test) [
      | inl h ↦ let less = skip_short is_digit cs in omega (arith, less, ap length (cond_true (skip is_digit cs) (s ∷ cs) test h))
      | inr h ↦ omega (arith, ap length (cond_false (skip is_digit cs) (s ∷ cs) test h))
    ]

fraction_short : (decimal : Bool) (before : ℕ) (cs : List ℕ) → length (after_fraction decimal before cs) ≤ length cs
fraction_short decimal before [] = omega arith
fraction_short decimal before (p ∷ ps) =
    let test = (p == 46) && begins_with is_digit ps in
    let more = after_exponent decimal (last_of_word p ps) (skip is_xid_continue ps) in
    let less = after_exponent decimal before (p ∷ ps) in
    elim (cases_Bool test) [
      | inl h ↦ omega (arith, skip_short is_xid_continue ps, exponent_short decimal (last_of_word p ps) (skip is_xid_continue ps), ap length (cond_true more less test h))
      | inr h ↦ omega (arith, exponent_short decimal before (p ∷ ps), ap length (cond_false more less test h))
    ]

pub suffix_short : (cs : List ℕ) → length (after_suffix cs) ≤ length cs
suffix_short [] = omega arith
suffix_short (c ∷ cs) =
    let word = skip is_xid_continue cs in
    elim (cases_Bool (starts_name c)) [
      | inl h ↦ omega (arith, skip_short is_xid_continue cs, ap length (cond_true word (c ∷ cs) (starts_name c) h))
      | inr h ↦ omega (arith, ap length (cond_false word (c ∷ cs) (starts_name c) h))
    ]

pub suffix_reads : (suffix rest : List ℕ) → IsSuffix suffix → length (after_suffix (suffix ++ rest)) ≤ length rest
suffix_reads [] rest s = suffix_short rest
suffix_reads (c ∷ cs) rest s =
    omega (arith, skip_least is_xid_continue cs rest s.1, ap length (cond_true (skip is_xid_continue (cs ++ rest)) (c ∷ (cs ++ rest)) (starts_name c) s.0))

all_append : (p : ℕ → Bool) (xs ys : List ℕ) → list_all p xs ≡ true → list_all p ys ≡ true → list_all p (xs ++ ys) ≡ true
all_append p [] ys h g = g
all_append p (x ∷ xs) ys h g =
    let both = and_parts (p x) (list_all p xs) h in
    and_from (p x) (list_all p (xs ++ ys)) both.0 (all_append p xs ys both.1 g)

suffix_continues : (suffix : List ℕ) → IsSuffix suffix → list_all is_xid_continue suffix ≡ true
suffix_continues [] s = refl
suffix_continues (c ∷ cs) s = and_from (is_xid_continue c) (list_all is_xid_continue cs) (name_continues c s.0) s.1

word_reads : (cs suffix rest : List ℕ) → list_all is_xid_continue cs ≡ true → IsSuffix suffix → length (skip is_xid_continue (cs ++ (suffix ++ rest))) ≤ length rest
word_reads cs suffix rest h s =
    let least = skip_least is_xid_continue (cs ++ suffix) rest (all_append is_xid_continue cs suffix h (suffix_continues suffix s)) in
    omega (arith, least, ap (λ v. length (skip is_xid_continue v)) (append_assoc cs suffix rest))

digits_read : (ds suffix rest : List ℕ) → list_all is_digit ds ≡ true → IsSuffix suffix → length (after_suffix (skip is_digit (ds ++ (suffix ++ rest)))) ≤ length rest
digits_read ds [] rest h s = omega (arith, suffix_short (skip is_digit (ds ++ rest)), skip_least is_digit ds rest h)
digits_read ds (c ∷ cs) rest h s =
    omega (arith, suffix_reads (c ∷ cs) rest s, ap (λ v. length (after_suffix v)) (skip_exact is_digit ds c (cs ++ rest) h (name_no_digit c s.0)))

-- a fact of a digit and the characters after it
abbrev pub AfterDigit : (ℕ → List ℕ → Type 0) → List ℕ → Type 0
AfterDigit P [] = ⊥
AfterDigit P (c ∷ cs) = (is_digit c ≡ true) × P c cs

point_read : (c : ℕ) (xs ds : List ℕ) → list_all is_xid_continue xs ≡ true → begins_with is_digit ds ≡ true
    → after_number c (xs ++ 46 ∷ ds) ≡ after_exponent (is_decimal (c ∷ (xs ++ 46 ∷ ds))) (last_of_word 46 ds) (skip is_xid_continue ds)
point_read c xs ds h b =
    let decimal = is_decimal (c ∷ (xs ++ 46 ∷ ds)) in
    let before = last_of_word c (xs ++ 46 ∷ ds) in
    ap (after_fraction decimal before) (skip_exact is_xid_continue xs 46 ds h point_ends)
    ∙ cond_true (after_exponent decimal (last_of_word 46 ds) (skip is_xid_continue ds)) (after_exponent decimal before (46 ∷ ds)) (begins_with is_digit ds) b

sign_read : (c s : ℕ) (xs ts : List ℕ) → list_all is_xid_continue xs ≡ true → is_sign s ≡ true
    → after_number c (xs ++ s ∷ ts) ≡ after_exponent (is_decimal (c ∷ (xs ++ s ∷ ts))) (last c xs) (s ∷ ts)
sign_read c s xs ts h g =
    let decimal = is_decimal (c ∷ (xs ++ s ∷ ts)) in
    let no_point : ((s == 46) && begins_with is_digit ts) ≡ false = ap (λ v. v && begins_with is_digit ts) (sign_no_point s g) in
    ap (after_fraction decimal (last_of_word c (xs ++ s ∷ ts))) (skip_exact is_xid_continue xs s ts h (sign_ends s g))
    ∙ ap (λ v. after_fraction decimal v (s ∷ ts)) (word_exact c xs s ts h (sign_ends s g))
    ∙ cond_false (after_exponent decimal (last_of_word s ts) (skip is_xid_continue ts)) (after_exponent decimal (last c xs) (s ∷ ts)) ((s == 46) && begins_with is_digit ts) no_point

plain_short : (number suffix rest : List ℕ) → IsPlainNumber number → IsSuffix suffix → AfterDigit (λ c cs. length (after_number c (cs ++ (suffix ++ rest))) ≤ length rest) number
plain_short [] suffix rest (whole w) s = absurd w
plain_short (c ∷ cs) suffix rest (whole w) s =
    let ys = suffix ++ rest in
    (w.0, omega (arith, word_reads cs suffix rest w.1 s, fraction_short (is_decimal (c ∷ (cs ++ ys))) (last_of_word c (cs ++ ys)) (skip is_xid_continue (cs ++ ys))))
plain_short number suffix rest (pointed [] ds w v) s = absurd w
plain_short number suffix rest (pointed (c ∷ cs) [] w v) s = absurd v
plain_short number suffix rest (pointed (c ∷ cs) (d ∷ ds) w v) s =
    let ys = suffix ++ rest in
    let digits = (d ∷ ds) ++ ys in
    let decimal = is_decimal (c ∷ (cs ++ 46 ∷ digits)) in
    let on : list_all is_xid_continue (d ∷ ds) ≡ true = and_from (is_xid_continue d) (list_all is_xid_continue ds) (digit_continues d v.0) v.1 in
    let read = ap (after_number c) (append_assoc cs (46 ∷ d ∷ ds) ys) ∙ point_read c cs digits w.1 v.0 in
    (w.0, omega (arith, word_reads (d ∷ ds) suffix rest on s, exponent_short decimal (last_of_word 46 digits) (skip is_xid_continue digits), ap length read))

plain_signed : (number : List ℕ) (s : ℕ) (ts : List ℕ) → IsPlainNumber number → is_sign s ≡ true
    → AfterDigit (λ c cs. after_number c (cs ++ s ∷ ts) ≡ after_exponent (is_decimal (c ∷ (cs ++ s ∷ ts))) (last c cs) (s ∷ ts)) number
plain_signed [] s ts (whole w) g = absurd w
plain_signed (c ∷ cs) s ts (whole w) g = (w.0, sign_read c s cs ts w.1 g)
plain_signed number s ts (pointed [] ds w v) g = absurd w
plain_signed number s ts (pointed (c ∷ cs) [] w v) g = absurd v
plain_signed number s ts (pointed (c ∷ cs) (d ∷ ds) w v) g =
    let digits = (d ∷ ds) ++ s ∷ ts in
    let same = append_assoc cs (46 ∷ d ∷ ds) (s ∷ ts) in
    let decimal = is_decimal (c ∷ (cs ++ 46 ∷ digits)) in
    let on : list_all is_xid_continue (d ∷ ds) ≡ true = and_from (is_xid_continue d) (list_all is_xid_continue ds) (digit_continues d v.0) v.1 in (
      w.0,
      ap (after_number c) same
          ∙ point_read c cs digits w.1 v.0
          ∙ ap (λ x. after_exponent decimal x (skip is_xid_continue digits)) (word_exact 46 (d ∷ ds) s ts on (sign_ends s g) ∙ sym (last_after c cs 46 d ds))
          ∙ ap (after_exponent decimal (last c (cs ++ 46 ∷ d ∷ ds))) (skip_exact is_xid_continue (d ∷ ds) s ts on (sign_ends s g))
          ∙ ap (λ x. after_exponent (is_decimal (c ∷ x)) (last c (cs ++ 46 ∷ d ∷ ds)) (s ∷ ts)) (sym same),
    )

signed_short : (number : List ℕ) (s d : ℕ) (ds suffix rest : List ℕ) → is_decimal number ≡ true → ends_in_e number ≡ true → is_sign s ≡ true → list_all is_digit (d ∷ ds) ≡ true → IsSuffix suffix
    → AfterDigit (λ c cs. after_number c (cs ++ s ∷ ((d ∷ ds) ++ (suffix ++ rest))) ≡ after_exponent (is_decimal (c ∷ (cs ++ s ∷ ((d ∷ ds) ++ (suffix ++ rest))))) (last c cs) (s ∷ ((d ∷ ds) ++ (suffix ++ rest)))) number
    → AfterDigit (λ c cs. length (after_suffix (after_number c (cs ++ (suffix ++ rest)))) ≤ length rest) (number ++ s ∷ d ∷ ds)
signed_short [] s d ds suffix rest dec ends g digits f read = absurd read
signed_short (c ∷ cs) s d ds suffix rest dec ends g digits f read =
    let ys = suffix ++ rest in
    let number = (d ∷ ds) ++ ys in
    let decimal = is_decimal (c ∷ (cs ++ s ∷ number)) in
    let takes : (decimal && is_e (last c cs) && is_sign s && is_digit d) ≡ true =
    and_from (decimal && is_e (last c cs) && is_sign s) (is_digit d)
    (and_from (decimal && is_e (last c cs)) (is_sign s) (and_from decimal (is_e (last c cs)) (decimal_signed c s cs number g dec) ends) g)
    (and_parts (is_digit d) (list_all is_digit ds) digits).0 in
    let found : after_number c ((cs ++ s ∷ d ∷ ds) ++ ys) ≡ skip is_digit number =
    ap (after_number c) (append_assoc cs (s ∷ d ∷ ds) ys) ∙ read.1 ∙ cond_true (skip is_digit number) (s ∷ number) (decimal && is_e (last c cs) && is_sign s && is_digit d) takes in
    (read.0, omega (arith, digits_read (d ∷ ds) suffix rest digits f, ap (λ v. length (after_suffix v)) found))

shorter_suffix : (number suffix rest : List ℕ) → AfterDigit (λ c cs. length (after_number c (cs ++ (suffix ++ rest))) ≤ length rest) number → AfterDigit (λ c cs. length (after_suffix (after_number c (cs ++ (suffix ++ rest)))) ≤ length rest) number
shorter_suffix [] suffix rest r = absurd r
shorter_suffix (c ∷ cs) suffix rest r = (r.0, omega (arith, r.1, suffix_short (after_number c (cs ++ (suffix ++ rest)))))

pub number_reads : (number suffix rest : List ℕ) → IsNumber number → IsSuffix suffix → AfterDigit (λ c cs. length (after_suffix (after_number c (cs ++ (suffix ++ rest)))) ≤ length rest) number
number_reads number suffix rest (plain n) f = shorter_suffix number suffix rest (plain_short number suffix rest n f)
number_reads number suffix rest (signed {cs = cs} s d ds n dec ends g digits) f =
    signed_short cs s d ds suffix rest dec ends g digits f (plain_signed cs s ((d ∷ ds) ++ (suffix ++ rest)) n g)

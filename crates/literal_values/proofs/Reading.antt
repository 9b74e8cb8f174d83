-- The number that digits write, read from the left.
use Rattle.std.proofs.Common.{◌≡◌, ℕ, ◌+◌, ◌*◌, ◌^◌, ◌<◌, ◌≤◌, List, [], ◌∷◌, length, drop, get_or, refl, ap, sym, ◌∙◌, arith, cond, Bool, true, false, not, ◌||◌, ◌&&◌, ◌==◌, nat_lt, Option, Some, None, unwrap_or, drop-cons, add-one}
use Rattle.std.proofs.lemmas.Bool.{ltb-true}
use Rattle.std.proofs.lemmas.Bool.Decides.{nat_tests}
use Rattle.std.proofs.lemmas.Int.Digits.{number_after_ge}
use Rattle.std.proofs.lemmas.List.{drop_all}
use Rattle.std.specs.Char.{digit_value}
use Rattle.std.specs.Int.Digits.{number_from_digits_after}
use Rattle.std.proofs.lemmas.List.Sums.{passes_at_first}
use Rattle.std.specs.List.{list_all, position_or_len}
use Rattle.literal_values.specs.Values.{plain, digits_of, are_some, number_in, suffix_place}

-- after digits of that number, where there were some
abbrev pub read_on : ℕ → ℕ → Bool → List ℕ → Option ℕ
read_on base number some [] = cond some (Some number) None
read_on base number some (b ∷ bs) =
    cond (b == 95) (read_on base number some bs)
    (cond (nat_lt (digit_value b) base && nat_lt (number * base + digit_value b) (2 ^ 64)) (read_on base (number * base + digit_value b) true bs) None)

-- what the digits that are left make of it
abbrev ends : ℕ → ℕ → Bool → List ℕ → Option ℕ
ends base number some digits =
    cond ((some || are_some digits) && list_all (λ d. nat_lt d base) digits && nat_lt (number_from_digits_after base number digits) (2 ^ 64))
    (Some (number_from_digits_after base number digits)) None

-- a sign _ counts for nothing, and another byte stays
pub plain_skip : (b : ℕ) (bs : List ℕ) → (b == 95) ≡ true → plain (b ∷ bs) ≡ plain bs
plain_skip b bs e = ap (λ v. cond (not v) (b ∷ plain bs) (plain bs)) e

pub plain_more : (b : ℕ) (bs : List ℕ) → (b == 95) ≡ false → plain (b ∷ bs) ≡ b ∷ plain bs
plain_more b bs e = ap (λ v. cond (not v) (b ∷ plain bs) (plain bs)) e

abbrev plain_digits : List ℕ → List ℕ
plain_digits bs = digits_of (plain bs)

digits_skip : (b : ℕ) (bs : List ℕ) → (b == 95) ≡ true → plain_digits (b ∷ bs) ≡ plain_digits bs
digits_skip b bs e = ap digits_of (plain_skip b bs e)

digits_more : (b : ℕ) (bs : List ℕ) → (b == 95) ≡ false → plain_digits (b ∷ bs) ≡ digit_value b ∷ plain_digits bs
digits_more b bs e = ap digits_of (plain_more b bs e)

refused : (some all fits : Bool) (x : Option ℕ) → cond ((some || true) && (false && all) && fits) x None ≡ None
refused true all fits x = refl
refused false all fits x = refl

accepted : (some all fits : Bool) (x : Option ℕ) → cond ((some || true) && (true && all) && fits) x None ≡ cond (all && fits) x None
accepted true all fits x = refl
accepted false all fits x = refl

too_large : (all fits : Bool) (x : Option ℕ) → fits ≡ false → cond (all && fits) x None ≡ None
too_large true fits x e = ap (λ v. cond v x None) e
too_large false fits x e = refl

large_stays : (base number : ℕ) (ds : List ℕ) → 0 < base → nat_lt number (2 ^ 64) ≡ false → nat_lt (number_from_digits_after base number ds) (2 ^ 64) ≡ false
large_stays base number ds b e = let least = number_after_ge base number ds b in grind (arith, nat_tests)

by_size : (base number : ℕ) (ds : List ℕ) (fits : Bool) → 0 < base → nat_lt number (2 ^ 64) ≡ fits → ends base number true ds ≡ cond fits (ends base number true ds) None
by_size base number ds true b e = refl
by_size base number ds false b e =
    too_large (list_all (λ d. nat_lt d base) ds) (nat_lt (number_from_digits_after base number ds) (2 ^ 64)) (Some (number_from_digits_after base number ds))
    (large_stays base number ds b e)

-- a digit of the base, no such digit, or too large a number
more : (base number digit : ℕ) (some is_digit : Bool) (ds : List ℕ) → 0 < base → nat_lt digit base ≡ is_digit → ends base number some (digit ∷ ds) ≡ cond (is_digit && nat_lt (number * base + digit) (2 ^ 64)) (ends base (number * base + digit) true ds) None
more base number digit some false ds b e =
    let all : Bool = list_all (λ d. nat_lt d base) ds in
    let value : ℕ = number_from_digits_after base (number * base + digit) ds in
    ap (λ v. cond ((some || true) && (v && all) && nat_lt value (2 ^ 64)) (Some value) None) e ∙ refused some all (nat_lt value (2 ^ 64)) (Some value)
more base number digit some true ds b e =
    let all : Bool = list_all (λ d. nat_lt d base) ds in
    let value : ℕ = number_from_digits_after base (number * base + digit) ds in
    ap (λ v. cond ((some || true) && (v && all) && nat_lt value (2 ^ 64)) (Some value) None) e ∙ accepted some all (nat_lt value (2 ^ 64)) (Some value)
    ∙ by_size base (number * base + digit) ds (nat_lt (number * base + digit) (2 ^ 64)) b refl

no_more : (number : ℕ) (some : Bool) → number < 2 ^ 64 → cond some (Some number) None ≡ cond ((some || false) && true && nat_lt number (2 ^ 64)) (Some number) None
no_more number true n = grind (arith, nat_tests)
no_more number false n = refl

both_same : (digit base number : ℕ) (x y : Option ℕ) (is_digit fits : Bool) → nat_lt number (2 ^ 64) ≡ fits → (number < 2 ^ 64 → x ≡ y) → cond (is_digit && fits) x None ≡ cond (is_digit && fits) y None
both_same digit base number x y true true e f = let small : number < 2 ^ 64 = grind (arith, nat_tests) in f small
both_same digit base number x y true false e f = refl
both_same digit base number x y false fits e f = refl

pub reads : (base number : ℕ) (some : Bool) (bs : List ℕ) → 0 < base → number < 2 ^ 64 → read_on base number some bs ≡ ends base number some (plain_digits bs)
reads base number some [] b n = no_more number some n
reads base number some (c ∷ cs) b n = by_sign (c == 95) refl (reads base number some cs b n) (reads base (number * base + digit_value c) true cs b)
  where
    next : ℕ
    next = number * base + digit_value c

    by_sign : (v : Bool) → (c == 95) ≡ v → read_on base number some cs ≡ ends base number some (plain_digits cs) → (number * base + digit_value c < 2 ^ 64 → read_on base (number * base + digit_value c) true cs ≡ ends base (number * base + digit_value c) true (plain_digits cs)) → read_on base number some (c ∷ cs) ≡ ends base number some (plain_digits (c ∷ cs))
    by_sign true e same later =
        let other = cond (nat_lt (digit_value c) base && nat_lt (number * base + digit_value c) (2 ^ 64)) (read_on base (number * base + digit_value c) true cs) None in
        ap (λ v. cond v (read_on base number some cs) other) e ∙ same ∙ ap (ends base number some) (sym (digits_skip c cs e))
    by_sign false e same later =
        let other = cond (nat_lt (digit_value c) base && nat_lt (number * base + digit_value c) (2 ^ 64)) (read_on base (number * base + digit_value c) true cs) None in
        ap (λ v. cond v (read_on base number some cs) other) e
        ∙ both_same (digit_value c) base (number * base + digit_value c) (read_on base (number * base + digit_value c) true cs) (ends base (number * base + digit_value c) true (plain_digits cs)) (nat_lt (digit_value c) base) (nat_lt (number * base + digit_value c) (2 ^ 64)) refl later
        ∙ sym (more base number (digit_value c) some (nat_lt (digit_value c) base) (plain_digits cs) b refl)
        ∙ ap (ends base number some) (sym (digits_more c cs e))

-- ---- as a loop reads them
pub number_is : (base : ℕ) (bs : List ℕ) → 0 < base → number_in base (plain bs) ≡ read_on base 0 false bs
number_is base bs b = sym (reads base 0 false bs b (omega arith))

pub read_step : (base number : ℕ) (some : Bool) (bs : List ℕ) (i : ℕ) → i < length bs → read_on base number some (drop i bs) ≡ read_on base number some (get_or bs i 0 ∷ drop (i + 1) bs)
read_step base number some bs i h = rw add-one (ap (read_on base number some) (drop-cons bs i 0 h))

pub read_end : (base number : ℕ) (some : Bool) (bs : List ℕ) (i : ℕ) → length bs ≤ i → read_on base number some (drop i bs) ≡ cond some (Some number) None
read_end base number some bs i h = ap (read_on base number some) (drop_all i bs h)

-- no digit of the base, or too large a number
stops : (digit base number : ℕ) (next : Option ℕ) (is_digit fits : Bool) → nat_lt digit base ≡ is_digit → nat_lt number (2 ^ 64) ≡ fits → ¬ ((digit < base) × (number < 2 ^ 64)) → cond (is_digit && fits) next None ≡ None
stops digit base number next true true d n f = absurd (f (ltb-true digit base d, ltb-true number (2 ^ 64) n))
stops digit base number next true false d n f = refl
stops digit base number next false fits d n f = refl

fault : (base number : ℕ) (some : Bool) (b : ℕ) (bs : List ℕ) → (b == 95) ≡ false → ¬ ((digit_value b < base) × (number * base + digit_value b < 2 ^ 64)) → read_on base number some (b ∷ bs) ≡ None
fault base number some b bs e f =
    let next : Option ℕ = read_on base (number * base + digit_value b) true bs in
    ap (λ v. cond v (read_on base number some bs) (cond (nat_lt (digit_value b) base && nat_lt (number * base + digit_value b) (2 ^ 64)) next None)) e
    ∙ stops (digit_value b) base (number * base + digit_value b) next (nat_lt (digit_value b) base) (nat_lt (number * base + digit_value b) (2 ^ 64)) refl refl f

pub read_fault : (base number : ℕ) (some : Bool) (bs : List ℕ) (i : ℕ) → i < length bs → (get_or bs i 0 == 95) ≡ false → ¬ ((digit_value (get_or bs i 0) < base) × (number * base + digit_value (get_or bs i 0) < 2 ^ 64)) → read_on base number some (drop i bs) ≡ None
read_fault base number some bs i h e f = read_step base number some bs i h ∙ fault base number some (get_or bs i 0) (drop (i + 1) bs) e f

-- ---- where the suffix begins
abbrev starts_suffix : ℕ → Bool
starts_suffix b = (b == 105) || (b == 117)

letter_is_ascii : (b : ℕ) → starts_suffix b ≡ true → b < 128
letter_is_ascii b e = grind (arith, nat_tests)

suffix_at : (text : List ℕ) (v : Bool) → nat_lt (position_or_len starts_suffix text) (length text) ≡ v → unwrap_or (cond v (Some (position_or_len starts_suffix text)) None) (length text) < length text → get_or text (unwrap_or (cond v (Some (position_or_len starts_suffix text)) None) (length text)) 0 < 128
suffix_at text true e h = letter_is_ascii (get_or text (position_or_len starts_suffix text) 0) (passes_at_first starts_suffix text 0 h)
suffix_at text false e h = absurd (omega arith)

pub suffix_is_ascii : (text : List ℕ) → suffix_place text < length text → get_or text (suffix_place text) 0 < 128
suffix_is_ascii text h = suffix_at text (nat_lt (position_or_len starts_suffix text) (length text)) refl h

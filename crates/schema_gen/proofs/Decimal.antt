-- Texts of decimal numbers.
use Rattle.std.proofs.Common.{◌≡◌, ◌≢◌, ◌<◌, ◌^◌, ℕ, List, get_or, refl, sym, ap, ◌∙◌, Ok}
use Rattle.std.specs.Fmt.{decimal}
use Rattle.std.specs.Str.Parse.{AllDigits, ParsesUnsigned, digits_value}
use Rattle.std.proofs.lemmas.Fmt.{decimal-digits_value, first_decimal}
use Rattle.std.proofs.lemmas.Str.Parse.{IsNumeralModel, parse_plain}

own_words : IsNumeralModel (AllDigits 10) (digits_value 10)
own_words = record { to = λ ds h. h; from = λ ds h. h; same = λ ds h. refl }

-- what is read without a sign and without a leading zero is written so
pub read_decimal : (bs : List ℕ) (n : ℕ) → ParsesUnsigned {E = Unit {0}} 64 10 bs (Ok n) → get_or bs 0 0 ≢ 43 → get_or bs 0 0 ≢ 48 → bs ≡ decimal n
read_decimal bs n parsed plus zero =
    let read = parse_plain own_words {E = Unit {0}} 64 bs (Ok n) parsed plus in
    sym (decimal-digits_value own_words bs read.0.0 read.0.1 (λ is. absurd (zero is)) read.0.2) ∙ ap decimal (sym read.1)

-- a decimal number begins with a digit other than zero
pub first_is_other : (bs : List ℕ) (n : ℕ) → 0 < n → n < 2 ^ 64 → bs ≡ decimal n → 48 < get_or bs 0 0
first_is_other bs n some small is = rw is (first_decimal n some small)

-- What follows the longest literal at the front of a text, as a scanner finds it.
use Rattle.std.specs.Prelude.{◌≡◌, ℕ, zero, suc, ◌+◌, ◌*◌, ◌≤◌, List, [], ◌∷◌, length, chars, Bool, true, false, cond, ◌||◌, ◌&&◌, ◌==◌, nat_lt, Option, Some, None, MatchOption}
use Rattle.std.specs.Borrow.{Bor}
use Rattle.std.specs.Char.{digit_value}
use Rattle.std.specs.Int.{is_in_range}
use Rattle.std.specs.Str.{IsUtf8}
use lib.Utf8.{scalar}
use Rattle.unicode_ident.specs.Ident.{is_xid_continue}
use Rattle.literals.specs.declared.scan.LiteralRun.{LiteralRun}
use Rattle.literals.specs.declared.scan.LiteralRun.TheVariants.{Word, Digits}
use Rattle.literals.specs.declared.strings.Escapes.{Escapes}
use Rattle.literals.specs.declared.strings.Escapes.TheVariants.{Listed, Any}
use Rattle.literals.specs.Literals.{is_digit, is_hex_digit, starts_name, is_short_escape, is_decimal, is_e, is_sign}

-- what a reader leaves of the text
abbrev pub Leaves : Option (Bor (List ℕ)) → List ℕ → Option (List ℕ) → Type 0
Leaves result text found = MatchOption result (found ≡ None) (λ rest. (found ≡ Some (chars rest.now)) × (length rest.now ≤ length text) × IsUtf8 rest.now)

-- whether a character goes on with a run
abbrev pub continues : LiteralRun → ℕ → Bool
continues Word c = is_xid_continue c
continues Digits c = is_digit c

-- what follows the characters at the front that pass the test
abbrev pub skip : (ℕ → Bool) → List ℕ → List ℕ
skip p [] = []
skip p (c ∷ cs) = cond (p c) (skip p cs) (c ∷ cs)

-- the last of the first character and the continue characters after it
abbrev pub last_of_word : ℕ → List ℕ → ℕ
last_of_word first [] = first
last_of_word first (c ∷ cs) = cond (is_xid_continue c) (last_of_word c cs) first

abbrev pub begins_with : (ℕ → Bool) → List ℕ → Bool
begins_with p [] = false
begins_with p (c ∷ cs) = p c

-- ---- strings

abbrev pub begins_seven_bits : List ℕ → Bool
begins_seven_bits [] = false
begins_seven_bits (c ∷ cs) = is_in_range 48 55 c && begins_with is_hex_digit cs

-- after so many digits of that value, a code goes on to }
abbrev pub code_goes_on : ℕ → ℕ → List ℕ → Bool
code_goes_on digits value [] = false
code_goes_on digits value (c ∷ cs) =
    cond (is_hex_digit c) (nat_lt digits 6 && code_goes_on (digits + 1) (value * 16 + digit_value c) cs)
    (nat_lt 0 digits && cond (c == 95) (code_goes_on digits value cs) ((c == 125) && scalar value))

abbrev pub begins_code_point : List ℕ → Bool
begins_code_point [] = false
begins_code_point (c ∷ cs) = (c == 123) && code_goes_on 0 0 cs

abbrev pub begins_escape : List ℕ → Bool
begins_escape [] = false
begins_escape (c ∷ cs) = is_short_escape c || ((c == 120) && begins_seven_bits cs) || ((c == 117) && begins_code_point cs)

-- what may follow a backslash
abbrev pub allows : Escapes → List ℕ → Bool
allows Listed cs = begins_escape cs
allows Any cs = true

-- what follows the string that goes on with the text, perhaps after a backslash
abbrev pub after_string : Escapes → Bool → List ℕ → Option (List ℕ)
after_string escapes backslash [] = None
after_string escapes true (c ∷ cs) = cond (allows escapes (c ∷ cs)) (after_string escapes false cs) None
after_string escapes false (c ∷ cs) = cond (c == 34) (Some cs) (after_string escapes (c == 92) cs)

-- ---- raw strings

abbrev pub after_hashes : ℕ → List ℕ → Option (List ℕ)
after_hashes zero cs = Some cs
after_hashes (suc n) [] = None
after_hashes (suc n) (c ∷ cs) = cond (c == 35) (after_hashes n cs) None

abbrev pub first_of : Option (List ℕ) → Option (List ℕ) → Option (List ℕ)
first_of None other = other
first_of (Some cs) other = Some cs

abbrev pub after_raw_text : ℕ → List ℕ → Option (List ℕ)
after_raw_text hashes [] = None
after_raw_text hashes (c ∷ cs) = cond (c == 34) (first_of (after_hashes hashes cs) (after_raw_text hashes cs)) (after_raw_text hashes cs)

-- after so many signs #
abbrev pub after_raw_string : ℕ → List ℕ → Option (List ℕ)
after_raw_string hashes [] = None
after_raw_string hashes (c ∷ cs) = cond (c == 34) (after_raw_text hashes cs) (cond ((c == 35) && nat_lt hashes 255) (after_raw_string (hashes + 1) cs) None)

-- ---- characters in quotes

-- what follows the next '
abbrev pub after_apostrophe : List ℕ → Option (List ℕ)
after_apostrophe [] = None
after_apostrophe (c ∷ cs) = cond (c == 39) (Some cs) (after_apostrophe cs)

abbrev pub after_escaped : List ℕ → Option (List ℕ)
after_escaped [] = None
after_escaped (c ∷ cs) = after_apostrophe cs

abbrev pub closed : List ℕ → Option (List ℕ)
closed [] = None
closed (c ∷ cs) = cond (c == 39) (Some cs) None

abbrev pub after_character : List ℕ → Option (List ℕ)
after_character [] = None
after_character (c ∷ cs) = cond (c == 39) None (cond (c == 92) (after_escaped cs) (closed cs))

-- ---- numbers

abbrev pub after_exponent : Bool → ℕ → List ℕ → List ℕ
after_exponent decimal before [] = []
after_exponent decimal before (c ∷ cs) = cond (decimal && is_e before && is_sign c && begins_with is_digit cs) (skip is_digit cs) (c ∷ cs)

abbrev pub after_fraction : Bool → ℕ → List ℕ → List ℕ
after_fraction decimal before [] = []
after_fraction decimal before (c ∷ cs) = cond ((c == 46) && begins_with is_digit cs) (after_exponent decimal (last_of_word c cs) (skip is_xid_continue cs)) (after_exponent decimal before (c ∷ cs))

abbrev pub after_number : ℕ → List ℕ → List ℕ
after_number c cs = after_fraction (is_decimal (c ∷ cs)) (last_of_word c cs) (skip is_xid_continue cs)

-- ---- literals

abbrev pub after_b : List ℕ → Option (List ℕ)
after_b [] = None
after_b (c ∷ cs) = cond (c == 34) (after_string Any false cs) (cond (c == 39) (after_character cs) (cond (c == 114) (after_raw_string 0 cs) None))

abbrev pub after_c : List ℕ → Option (List ℕ)
after_c [] = None
after_c (c ∷ cs) = cond (c == 34) (after_string Any false cs) (cond (c == 114) (after_raw_string 0 cs) None)

-- what follows the form whose first character, no digit, stands before the text
abbrev pub after_first : ℕ → List ℕ → Option (List ℕ)
after_first c cs =
    cond (c == 34) (after_string Listed false cs) (cond (c == 39) (after_character cs)
    (cond (c == 98) (after_b cs) (cond (c == 99) (after_c cs) (cond (c == 114) (after_raw_string 0 cs) None))))

abbrev pub form_at : List ℕ → Option (List ℕ)
form_at [] = None
form_at (c ∷ cs) = cond (is_digit c) (Some (after_number c cs)) (after_first c cs)

abbrev pub after_suffix : List ℕ → List ℕ
after_suffix [] = []
after_suffix (c ∷ cs) = cond (starts_name c) (skip is_xid_continue cs) (c ∷ cs)

abbrev pub past_suffix : Option (List ℕ) → Option (List ℕ)
past_suffix None = None
past_suffix (Some rest) = Some (after_suffix rest)

-- what follows the longest literal at the front
abbrev pub literal_at : List ℕ → Option (List ℕ)
literal_at text = past_suffix (form_at text)

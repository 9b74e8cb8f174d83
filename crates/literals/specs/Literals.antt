-- Literals, over the characters of a text (The Rust Reference, "Tokens": "Literals").
use Rattle.std.specs.Prelude.{◌≡◌, ℕ, ◌≤◌, List, [], ◌∷◌, ◌++◌, length, replicate, map, Bool, true, false, not, ◌||◌, ◌&&◌, ◌==◌, nat_lt}
use Rattle.std.specs.Int.{is_in_range}
use Rattle.std.specs.Int.Digits.{number_from_digits}
use Rattle.std.specs.Char.{IsScalar, digit_value}
use Rattle.std.specs.List.{filter, list_all}
use Rattle.unicode_ident.specs.Ident.{is_xid_start, is_xid_continue}

-- ---- characters

-- 0 to 9
abbrev pub is_digit : ℕ → Bool
is_digit c = is_in_range 48 57 c

-- 0 to 9, a to f, A to F
abbrev pub is_hex_digit : ℕ → Bool
is_hex_digit c = nat_lt (digit_value c) 16

-- " or '
abbrev pub is_quote : ℕ → Bool
is_quote c = (c == 34) || (c == 39)

-- an underscore, or a character of XID_Start
abbrev pub starts_name : ℕ → Bool
starts_name c = (c == 95) || is_xid_start c

-- a digit, a quote, or one of b c r
abbrev pub begins_literal : ℕ → Bool
begins_literal c = is_digit c || is_quote c || (c == 98) || (c == 99) || (c == 114)

-- ---- strings

-- n r t \ 0 " ' or a new line
abbrev pub is_short_escape : ℕ → Bool
is_short_escape c = (c == 110) || (c == 114) || (c == 116) || (c == 92) || (c == 48) || is_quote c || (c == 10)

-- a hexadecimal digit or _
abbrev pub is_code_sign : ℕ → Bool
is_code_sign c = is_hex_digit c || (c == 95)

abbrev pub hex_digits : List ℕ → List ℕ
hex_digits cs = filter is_hex_digit cs

-- up to six hexadecimal digits, each perhaps followed by signs _, that are the number of a character
abbrev pub IsCode : List ℕ → Type 0
IsCode [] = ⊥
IsCode (c ∷ cs) =
    (is_hex_digit c ≡ true) × (list_all is_code_sign cs ≡ true)
    × (length (hex_digits (c ∷ cs)) ≤ 6) × IsScalar (number_from_digits 16 (map digit_value (hex_digits (c ∷ cs))))

-- what follows a backslash in a string: a short escape, x7f or u{10ffff}
pub data IsEscape : List ℕ → Type 0 where
  short : {c : ℕ} → is_short_escape c ≡ true → IsEscape (c ∷ [])
  seven_bits : {high low : ℕ} → is_in_range 48 55 high ≡ true → is_hex_digit low ≡ true → IsEscape (120 ∷ high ∷ low ∷ [])
  code_point : (code : List ℕ) → IsCode code → IsEscape (117 ∷ 123 ∷ (code ++ 125 ∷ []))

-- what follows a backslash in a byte string or a C string
pub data IsAnyCharacter : List ℕ → Type 0 where
  any : {c : ℕ} → IsAnyCharacter (c ∷ [])

-- neither " nor \
abbrev pub is_plain : ℕ → Bool
is_plain c = not ((c == 34) || (c == 92))

-- plain characters, and backslashes with their escapes
pub data IsText (IsEscaped : List ℕ → Type 0) : List ℕ → Type 0 where
  empty : IsText IsEscaped []
  plain : {c : ℕ} {cs : List ℕ} → is_plain c ≡ true → IsText IsEscaped cs → IsText IsEscaped (c ∷ cs)
  escaped : {escape cs : List ℕ} → IsEscaped escape → IsText IsEscaped cs → IsText IsEscaped (92 ∷ (escape ++ cs))

-- a text in quotes
abbrev pub IsString : (List ℕ → Type 0) → List ℕ → Type 0
IsString IsEscaped cs = (text : List ℕ) × (cs ≡ 34 ∷ (text ++ 34 ∷ [])) × IsText IsEscaped text

-- ---- raw strings

-- the text has no " with that many # after it
abbrev pub IsRawText : ℕ → List ℕ → Type 0
IsRawText hashes text = (before after : List ℕ) → ¬ (text ≡ before ++ 34 ∷ (replicate hashes 35 ++ after))

-- up to 255 #, a text in quotes, as many #
abbrev pub IsRawString : List ℕ → Type 0
IsRawString cs = (hashes : ℕ) × (text : List ℕ) × (hashes ≤ 255) × IsRawText hashes text × (cs ≡ replicate hashes 35 ++ 34 ∷ (text ++ 34 ∷ replicate hashes 35))

-- ---- characters in quotes

-- any but '
abbrev pub is_not_apostrophe : ℕ → Bool
is_not_apostrophe c = not (c == 39)

-- in single quotes, one character other than ' and \, or a backslash, any character and what stands before the next '
pub data IsCharacter : List ℕ → Type 0 where
  plain : {c : ℕ} → not ((c == 39) || (c == 92)) ≡ true → IsCharacter (39 ∷ c ∷ 39 ∷ [])
  escaped : {c : ℕ} (cs : List ℕ) → list_all is_not_apostrophe cs ≡ true → IsCharacter (39 ∷ 92 ∷ c ∷ (cs ++ 39 ∷ []))

-- ---- numbers

-- a digit, and continue characters
abbrev pub IsDigits : List ℕ → Type 0
IsDigits [] = ⊥
IsDigits (c ∷ cs) = (is_digit c ≡ true) × (list_all is_xid_continue cs ≡ true)

-- digits, perhaps with a point and digits
pub data IsPlainNumber : List ℕ → Type 0 where
  whole : {cs : List ℕ} → IsDigits cs → IsPlainNumber cs
  pointed : (cs ds : List ℕ) → IsDigits cs → IsDigits ds → IsPlainNumber (cs ++ 46 ∷ ds)

-- x, o or b, which after 0 tells another base
abbrev pub is_base : ℕ → Bool
is_base c = (c == 120) || (c == 111) || (c == 98)

-- it does not begin with 0x, 0o or 0b
abbrev pub is_decimal : List ℕ → Bool
is_decimal [] = true
is_decimal (c ∷ []) = true
is_decimal (c ∷ d ∷ ds) = not ((c == 48) && is_base d)

-- the last of the first character and the others
abbrev pub last : ℕ → List ℕ → ℕ
last c [] = c
last c (d ∷ ds) = last d ds

-- e or E
abbrev pub is_e : ℕ → Bool
is_e c = (c == 101) || (c == 69)

abbrev pub ends_in_e : List ℕ → Bool
ends_in_e [] = false
ends_in_e (c ∷ cs) = is_e (last c cs)

-- + or -
abbrev pub is_sign : ℕ → Bool
is_sign c = (c == 43) || (c == 45)

-- a plain number; where it is decimal and ends in e, perhaps a sign and digits follow
pub data IsNumber : List ℕ → Type 0 where
  plain : {cs : List ℕ} → IsPlainNumber cs → IsNumber cs
  signed : {cs : List ℕ} (sign d : ℕ) (ds : List ℕ) → IsPlainNumber cs → is_decimal cs ≡ true → ends_in_e cs ≡ true → is_sign sign ≡ true → list_all is_digit (d ∷ ds) ≡ true → IsNumber (cs ++ sign ∷ d ∷ ds)

-- ---- literals

-- each form of a literal; the letters are b, c and r
pub data IsForm : List ℕ → Type 0 where
  number : {cs : List ℕ} → IsNumber cs → IsForm cs
  character : {cs : List ℕ} → IsCharacter cs → IsForm cs
  byte : {cs : List ℕ} → IsCharacter cs → IsForm (98 ∷ cs)
  string : {cs : List ℕ} → IsString IsEscape cs → IsForm cs
  byte_string : {cs : List ℕ} → IsString IsAnyCharacter cs → IsForm (98 ∷ cs)
  c_string : {cs : List ℕ} → IsString IsAnyCharacter cs → IsForm (99 ∷ cs)
  raw_string : {cs : List ℕ} → IsRawString cs → IsForm (114 ∷ cs)
  raw_byte_string : {cs : List ℕ} → IsRawString cs → IsForm (98 ∷ 114 ∷ cs)
  raw_c_string : {cs : List ℕ} → IsRawString cs → IsForm (99 ∷ 114 ∷ cs)

-- nothing, or an identifier
abbrev pub IsSuffix : List ℕ → Type 0
IsSuffix [] = Unit {0}
IsSuffix (c ∷ cs) = (starts_name c ≡ true) × (list_all is_xid_continue cs ≡ true)

-- the characters are one literal, with its suffix
abbrev pub IsLiteral : List ℕ → Type 0
IsLiteral cs = (form : List ℕ) × (suffix : List ℕ) × (cs ≡ form ++ suffix) × IsForm form × IsSuffix suffix

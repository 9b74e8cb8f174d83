-- What strings say (The Rust Reference, "Tokens": "Quote escapes", "ASCII escapes", "Unicode escapes", "String literals", "Raw string literals"), by their characters, in UTF-8.
use Rattle.std.specs.Prelude.{◌≡◌, ◌⊎◌, ℕ, ◌+◌, ◌*◌, ◌<◌, ◌≤◌, List, [], ◌∷◌, ◌++◌, map, replicate, chars, encode_utf8, Bool, true, false, Some}
use Rattle.std.specs.Char.{digit_value}
use Rattle.std.specs.Int.Digits.{number_from_digits}
use Rattle.std.specs.List.{flat_map, list_all}
use Rattle.literals.specs.Literals.{is_hex_digit, is_plain, hex_digits, IsCode, IsEscape, IsString, IsRawText, IsRawString}
use Rattle.tokens.specs.declared.token.Token.{Token}
use Rattle.tokens.specs.declared.token.TokenKind.TheVariants as kind
use Rattle.literal_values.specs.Values.{short_escapes, escaped_among, is_blank}

abbrev pub begins_blank : List ℕ → Bool
begins_blank [] = false
begins_blank (c ∷ cs) = is_blank c

-- the number of a character in braces
abbrev pub code_number : List ℕ → ℕ
code_number code = number_from_digits 16 (map digit_value (hex_digits code))

-- what stands between the quotes of a string, and what it says
pub data Says : List ℕ → List ℕ → Type 0 where
  nothing : Says [] []
  -- a character that is neither " nor \
  itself : {c : ℕ} {cs text : List ℕ} → is_plain c ≡ true → Says cs text → Says (c ∷ cs) (encode_utf8 c ++ text)
  -- \n \r \t \\ \0 \" \'
  short : {c d : ℕ} {cs text : List ℕ} → escaped_among c short_escapes ≡ Some d → Says cs text → Says (92 ∷ c ∷ cs) (encode_utf8 d ++ text)
  -- \x and two hexadecimal digits, up to 7F
  seven_bits : {high low : ℕ} {cs text : List ℕ} → digit_value high < 8 → is_hex_digit low ≡ true → Says cs text
      → Says (92 ∷ 120 ∷ high ∷ low ∷ cs) (encode_utf8 (digit_value high * 16 + digit_value low) ++ text)
  -- \u and the number of a character in braces
  code_point : {cs text : List ℕ} (code : List ℕ) → IsCode code → Says cs text → Says (92 ∷ 117 ∷ 123 ∷ (code ++ 125 ∷ cs)) (encode_utf8 (code_number code) ++ text)
  -- \ before a new line: they and the blanks behind them say nothing
  continued : {cs text : List ℕ} (blanks : List ℕ) → list_all is_blank blanks ≡ true → begins_blank cs ≡ false → Says cs text → Says (92 ∷ 10 ∷ (blanks ++ cs)) text

-- a string with escapes, and a raw one, which says what stands in it; without prefix and suffix
pub data IsStringOf : List ℕ → List ℕ → Type 0 where
  escaped : {cs text : List ℕ} → Says cs text → IsStringOf (34 ∷ (cs ++ 34 ∷ [])) text
  raw : (hashes : ℕ) (cs : List ℕ) → hashes ≤ 255 → IsRawText hashes cs
      → IsStringOf (114 ∷ (replicate hashes 35 ++ 34 ∷ (cs ++ 34 ∷ replicate hashes 35))) (flat_map encode_utf8 cs)

-- a string without prefix and suffix, by the grammar of literals
abbrev pub IsPlainString : List ℕ → Type 0
IsPlainString cs = IsString IsEscape cs ⊎ ((rest : List ℕ) × (cs ≡ 114 ∷ rest) × IsRawString rest)

-- the token is a string that says the text
abbrev pub IsTextOf : Token → List ℕ → Type 0
IsTextOf t text = (t.kind ≡ kind.Literal) × IsStringOf (chars t.text) text

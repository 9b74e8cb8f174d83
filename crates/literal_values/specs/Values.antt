-- The values of literals (The Rust Reference, "Tokens": "String literals", "Raw string literals", "Integer literals").
use Rattle.std.specs.Prelude.{ℕ, ◌+◌, ◌*◌, ◌^◌, List, [], ◌∷◌, ◌++◌, length, map, take, drop, chars, encode_utf8, codes, bytes_eq, Bool, true, false, cond, not, ◌||◌, ◌&&◌, ◌==◌, nat_lt, Option, Some, None, option_map, unwrap_or, position}
use Rattle.std.specs.Char.{digit_value}
use Rattle.std.specs.Int.Digits.{number_from_digits}
use Rattle.std.specs.Option.{option_or}
use Rattle.std.specs.List.{filter, list_all, list_any}
use lib.Utf8.{scalar}
use Rattle.literals.specs.Literals.{is_digit, is_hex_digit}
use Rattle.literals.specs.Scanning.{after_hashes}
use Rattle.tokens.specs.declared.token.Token.{Token}
use Rattle.tokens.specs.declared.token.TokenKind.{TokenKind}
use Rattle.tokens.specs.declared.token.TokenKind.TheVariants as kind
use Rattle.literal_values.specs.declared.value.LiteralValue.{LiteralValue}
use Rattle.literal_values.specs.declared.value.LiteralValue.TheVariants as value

-- ---- strings, over their characters

-- the character, in UTF-8, before the value of what follows
abbrev pub put : ℕ → Option (List ℕ) → Option (List ℕ)
put c rest = option_map (λ bytes. encode_utf8 c ++ bytes) rest

-- the empty value, where nothing follows
abbrev pub ended : List ℕ → Option (List ℕ)
ended [] = Some []
ended (c ∷ cs) = None

-- n r t \ 0 " ' after a backslash, and the characters that they stand for
abbrev pub short_escapes : List (ℕ × ℕ)
short_escapes = (110, 10) ∷ (114, 13) ∷ (116, 9) ∷ (92, 92) ∷ (48, 0) ∷ (34, 34) ∷ (39, 39) ∷ []

abbrev pub escaped_among : ℕ → List (ℕ × ℕ) → Option ℕ
escaped_among c [] = None
escaped_among c (e ∷ es) = cond (c == e.0) (Some e.1) (escaped_among c es)

-- the character of a short escape, where it is one
abbrev pub put_escaped : Option ℕ → Option (List ℕ) → Option (List ℕ)
put_escaped None rest = None
put_escaped (Some c) rest = put c rest

-- tab, new line, carriage return or space
abbrev pub is_blank : ℕ → Bool
is_blank c = (c == 9) || (c == 10) || (c == 13) || (c == 32)

abbrev mutual
  -- what follows the first quote, up to the last, which ends the text; blanks count for nothing after an escaped new line
  pub unescaped : Bool → List ℕ → Option (List ℕ)
  unescaped skips [] = None
  unescaped skips (c ∷ cs) =
      cond (skips && is_blank c) (unescaped true cs)
      (cond (c == 34) (ended cs) (cond (c == 92) (after_backslash cs) (put c (unescaped false cs))))

  -- an escape without its backslash
  pub after_backslash : List ℕ → Option (List ℕ)
  after_backslash [] = None
  after_backslash (c ∷ cs) =
      cond (c == 10) (unescaped true cs) (cond (c == 120) (after_x cs) (cond (c == 117) (after_u cs)
      (put_escaped (escaped_among c short_escapes) (unescaped false cs))))

  -- after x: two hexadecimal digits up to 7F
  pub after_x : List ℕ → Option (List ℕ)
  after_x [] = None
  after_x (high ∷ []) = None
  after_x (high ∷ low ∷ cs) =
      cond (nat_lt (digit_value high) 8 && is_hex_digit low) (put (digit_value high * 16 + digit_value low) (unescaped false cs)) None

  -- a character's number in braces
  pub after_u : List ℕ → Option (List ℕ)
  after_u [] = None
  after_u (c ∷ cs) = cond (c == 123) (in_code 0 0 cs) None

  -- one to six hexadecimal digits, each perhaps followed by signs _, and }: after so many of them, of that number
  pub in_code : ℕ → ℕ → List ℕ → Option (List ℕ)
  in_code digits number [] = None
  in_code digits number (c ∷ cs) =
      cond (is_hex_digit c) (cond (nat_lt digits 6) (in_code (digits + 1) (number * 16 + digit_value c) cs) None)
      (cond (nat_lt 0 digits)
      (cond (c == 95) (in_code digits number cs) (cond ((c == 125) && scalar number) (put number (unescaped false cs)) None)) None)

-- after a quote: the value ends where its signs # follow, and else goes on
abbrev pub closed_or : Option (List ℕ) → Option (List ℕ) → Option (List ℕ)
closed_or None more = more
closed_or (Some rest) more = ended rest

-- what follows the first quote, as it stands, up to a quote and so many signs #, which end the text
abbrev pub raw_text : ℕ → List ℕ → Option (List ℕ)
raw_text hashes [] = None
raw_text hashes (c ∷ cs) =
    cond (c == 34) (closed_or (after_hashes hashes cs) (put c (raw_text hashes cs))) (put c (raw_text hashes cs))

-- what follows the r and so many signs #, of which there are up to 255
abbrev pub raw_string : ℕ → List ℕ → Option (List ℕ)
raw_string hashes [] = None
raw_string hashes (c ∷ cs) = cond (c == 34) (raw_text hashes cs) (cond ((c == 35) && nat_lt hashes 255) (raw_string (hashes + 1) cs) None)

-- a string begins with a quote, and a raw one with r
abbrev pub string_value : List ℕ → Option (List ℕ)
string_value [] = None
string_value (c ∷ cs) = cond (c == 34) (unescaped false cs) (cond (c == 114) (raw_string 0 cs) None)

-- ---- whole numbers, over their bytes

abbrev pub integer_types : List (List ℕ)
integer_types =
    codes "i8" ∷ codes "i16" ∷ codes "i32" ∷ codes "i64" ∷ codes "i128" ∷ codes "isize"
    ∷ codes "u8" ∷ codes "u16" ∷ codes "u32" ∷ codes "u64" ∷ codes "u128" ∷ codes "usize" ∷ []

-- nothing, or the name of an integer type
abbrev pub is_integer_suffix : List ℕ → Bool
is_integer_suffix text = bytes_eq text [] || list_any (bytes_eq text) integer_types

-- the place of the first i or u, which are no digits, or the length
abbrev pub suffix_place : List ℕ → ℕ
suffix_place text = unwrap_or (position (λ b. (b == 105) || (b == 117)) text) (length text)

-- the text without its signs _
abbrev pub plain : List ℕ → List ℕ
plain text = filter (λ b. not (b == 95)) text

abbrev pub digits_of : List ℕ → List ℕ
digits_of text = map digit_value text

-- there is a digit
abbrev pub are_some : List ℕ → Bool
are_some [] = false
are_some (d ∷ ds) = true

-- there are digits, all of the base, and their number is at most 2^64 - 1
abbrev pub is_number : ℕ → List ℕ → Bool
is_number base digits = are_some digits && list_all (λ d. nat_lt d base) digits && nat_lt (number_from_digits base digits) (2 ^ 64)

-- the number that digits write in a base
abbrev pub number_in : ℕ → List ℕ → Option ℕ
number_in base text = cond (is_number base (digits_of text)) (Some (number_from_digits base (digits_of text))) None

-- the base of digits after 0x, 0o and 0b
abbrev pub base_of : ℕ → Option ℕ
base_of b = cond (b == 120) (Some 16) (cond (b == 111) (Some 8) (cond (b == 98) (Some 2) None))

-- a number in that base, or else the decimal one
abbrev pub number_after : Option ℕ → List ℕ → List ℕ → Option ℕ
number_after None text digits = number_in 10 text
number_after (Some base) text digits = number_in base digits

-- a number without its suffix and signs _
abbrev pub unsuffixed : List ℕ → Option ℕ
unsuffixed [] = None
unsuffixed (b ∷ []) = number_in 10 (b ∷ [])
unsuffixed (b ∷ c ∷ bs) = cond (b == 48) (number_after (base_of c) (b ∷ c ∷ bs) bs) (number_in 10 (b ∷ c ∷ bs))

abbrev pub begins_with_digit : List ℕ → Bool
begins_with_digit [] = false
begins_with_digit (b ∷ bs) = is_digit b

-- a number, which begins with a digit, and has perhaps the name of an integer type; its signs _ count for nothing
abbrev pub whole_value : List ℕ → Option ℕ
whole_value text = cond (begins_with_digit text && is_integer_suffix (drop (suffix_place text) text)) (unsuffixed (plain (take (suffix_place text) text))) None

-- ---- tokens

abbrev pub truth_value : List ℕ → Option Bool
truth_value text = cond (bytes_eq text (codes "true")) (Some true) (cond (bytes_eq text (codes "false")) (Some false) None)

abbrev pub text_among : TokenKind → List ℕ → Option (List ℕ)
text_among kind.Literal text = string_value (chars text)
text_among other text = None

-- the value of a string, in UTF-8
abbrev pub text_value : Token → Option (List ℕ)
text_value t = text_among t.kind t.text

abbrev pub value_among : TokenKind → List ℕ → Option LiteralValue
value_among kind.Ident text = option_map value.Bool (truth_value text)
value_among kind.Literal text = option_or (option_map value.Text (string_value (chars text))) (option_map value.Number (whole_value text))
value_among other text = None

-- a truth value, a text or a whole number
abbrev pub value_of : Token → Option LiteralValue
value_of t = value_among t.kind t.text

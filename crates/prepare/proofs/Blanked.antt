-- Blanks for characters, one after another.
use Rattle.std.proofs.Common.{◌≡◌, ◌∙◌, ◌+◌, ◌-◌, refl, ap, sym, arith, ℕ, zero, suc, List, ◌∷◌, ◌++◌, length, length-append, replicate, Bool, true, false, append-nil}
use Rattle.std.proofs.lemmas.Str.{encode_ascii, encodes-chars, encodes-append}
use Rattle.std.specs.Prelude.{encode_utf8}
use Rattle.std.specs.Str.{chars, IsUtf8, encode_utf8_all}
use Rattle.texts.specs.declared.span.Span.{Span}
use Rattle.prepare.specs.Blanks.{covers, blank_or_not, blanked}

encoded_blanks : (n : ℕ) → encode_utf8_all (replicate n 32) ≡ replicate n 32
encoded_blanks zero = refl
encoded_blanks (suc n) = ap (λ v. v ++ encode_utf8_all (replicate n 32)) (encode_ascii 32 (omega arith)) ∙ ap (λ v. 32 ∷ v) (encoded_blanks n)

-- a text is its first character and the rest
whole : (rest after : List ℕ) (c : ℕ) → IsUtf8 rest → chars rest ≡ c ∷ chars after → encode_utf8_all (c ∷ chars after) ≡ rest
whole rest after c utf8 is = ap encode_utf8_all (sym is) ∙ encodes-chars rest utf8

-- as many bytes as the character has
pub width : (rest after : List ℕ) (c : ℕ) → IsUtf8 rest → IsUtf8 after → chars rest ≡ c ∷ chars after → length rest ≡ length (encode_utf8 c) + length after
width rest after c utf8 later is =
    let parts : encode_utf8 c ++ after ≡ rest = ap (λ v. encode_utf8 c ++ v) (sym (encodes-chars after later)) ∙ whole rest after c utf8 is in
    sym (ap length parts) ∙ length-append (encode_utf8 c) after

-- what is made of a text, by its first character
by_first : (spans : List Span) (end : ℕ) (rest after : List ℕ) (c : ℕ) (b : Bool) → IsUtf8 rest → chars rest ≡ c ∷ chars after → covers spans (end - length rest) ≡ b
    → encode_utf8_all (blanked spans end (chars rest)) ≡ encode_utf8_all (blank_or_not b c) ++ encode_utf8_all (blanked spans end (chars after))
by_first spans end rest after c b utf8 is covered =
    ap (λ v. encode_utf8_all (blanked spans end v)) is
    ∙ ap (λ t. encode_utf8_all (blank_or_not (covers spans (end - length t)) c ++ blanked spans end (chars after))) (whole rest after c utf8 is)
    ∙ ap (λ v. encode_utf8_all (blank_or_not v c ++ blanked spans end (chars after))) covered
    ∙ encodes-append (blank_or_not b c) (blanked spans end (chars after))

pub kept_first : (spans : List Span) (end : ℕ) (rest after : List ℕ) (c : ℕ) → IsUtf8 rest → chars rest ≡ c ∷ chars after → covers spans (end - length rest) ≡ false
    → encode_utf8_all (blanked spans end (chars rest)) ≡ encode_utf8 c ++ encode_utf8_all (blanked spans end (chars after))
kept_first spans end rest after c utf8 is covered =
    by_first spans end rest after c false utf8 is covered ∙ ap (λ v. v ++ encode_utf8_all (blanked spans end (chars after))) (append-nil (encode_utf8 c))

pub blank_first : (spans : List Span) (end : ℕ) (rest after : List ℕ) (c n : ℕ) → IsUtf8 rest → chars rest ≡ c ∷ chars after → covers spans (end - length rest) ≡ true → n ≡ length (encode_utf8 c)
    → encode_utf8_all (blanked spans end (chars rest)) ≡ replicate n 32 ++ encode_utf8_all (blanked spans end (chars after))
blank_first spans end rest after c n utf8 is covered many =
    by_first spans end rest after c true utf8 is covered
    ∙ ap (λ v. v ++ encode_utf8_all (blanked spans end (chars after))) (encoded_blanks (length (encode_utf8 c)) ∙ ap (λ k. replicate k 32) (sym many))

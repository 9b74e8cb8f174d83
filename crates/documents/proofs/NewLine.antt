-- A new line at the end of a text changes none of its tokens.
use Rattle.std.proofs.Common.{◌≡◌, ℕ, ◌+◌, ◌-◌, ◌==◌, ◌&&◌, ◌||◌, List, [], ◌∷◌, ◌++◌, length, take, drop, Bool, true, false, cond, nat_eq, nat_lt, Option, Some, None, option_map, option_and_then, refl, ap, ap₂, ◌∙◌, arith, length-append}
use Rattle.std.proofs.lemmas.List.{take-append-le, drop-append-le}
use Rattle.std.proofs.lemmas.List.Sums.{prefix_len-le-length}
use Rattle.std.specs.Char.{is_ascii_digit, is_digit, encode_utf8}
use Rattle.std.specs.List.{prefix_len, starts_with}
use Rattle.json.specs.Token.{boolean, null, bad, number}
use Rattle.json.specs.Text.{Within, plain, after_backslash, after_u, after_high, content, code_unit, short_escape, prepend, is_high_surrogate, is_low_surrogate, surrogate_pair}
use Rattle.json.specs.Word.{ends_word, after_digits, after_minus, after_sign, after_whole, after_fraction, after_exponent, after_number, number_before, literal, word}
use Rattle.json.specs.Ascii.{true_text, false_text, null_text}
use Rattle.json.specs.Lex.{Lexeme, token, Class, quote, backslash, operator, space, other, class, operator_lexeme, string_token, Mode, between, in_word, in_string, in_escape, lex_byte, lex, punctuate, fresh, tokens}

abbrev line : List ℕ → List ℕ
line t = t ++ 10 ∷ []

abbrev lines : Option (List ℕ) → Option (List ℕ)
lines o = option_map line o

-- ---- the content of a string

and_then_same : {A B : Type 0} (f g : A → Option B) → ((a : A) → f a ≡ g a) → (o : Option A) → option_and_then f o ≡ option_and_then g o
and_then_same f g h None = refl
and_then_same f g h (Some a) = h a

no_digit : (b : Bool) (n : ℕ) → cond (b && false) (Some n) None ≡ None
no_digit true n = refl
no_digit false n = refl

no_unit : (a b c : ℕ) → code_unit a b c 10 ≡ None
unfolding code_unit
no_unit a b c = no_digit (is_digit a 16 && is_digit b 16 && is_digit c 16) _

cond_same : {A : Type 0} (b : Bool) (a : A) → cond b a a ≡ a
cond_same true a = refl
cond_same false a = refl

abbrev of_unit : List ℕ → ℕ → Option (List ℕ)
of_unit xs u = cond (is_high_surrogate u) (content (after_high u) xs) (cond (is_low_surrogate u) None (prepend (encode_utf8 u) (content plain xs)))

abbrev of_pair : ℕ → List ℕ → ℕ → Option (List ℕ)
of_pair h xs l = cond (is_low_surrogate l) (prepend (encode_utf8 (surrogate_pair h l)) (content plain xs)) None

content-line : (w : Within) (xs : List ℕ) → content w (line xs) ≡ content w xs
unfolding content short_escape
content-line plain [] = refl
content-line plain (x ∷ xs) = ap₂ (λ o p. cond (x == 34) (Some []) (cond (x == 92) o (cond (nat_lt x 32) None (prepend (x ∷ []) p)))) (content-line after_backslash xs) (content-line plain xs)
content-line after_backslash [] = refl
content-line after_backslash (x ∷ xs) = ap₂ (λ o p. cond (x == 117) o (option_and_then (λ c. prepend (c ∷ []) p) (short_escape x))) (content-line after_u xs) (content-line plain xs)
content-line after_u [] = refl
content-line after_u (a ∷ []) = refl
content-line after_u (a ∷ b ∷ []) = refl
content-line after_u (a ∷ b ∷ c ∷ []) = ap (option_and_then (of_unit [])) (no_unit a b c)
content-line after_u (a ∷ b ∷ c ∷ d ∷ xs) =
    and_then_same (of_unit (line xs)) (of_unit xs)
    (λ u. ap₂ (λ o p. cond (is_high_surrogate u) o (cond (is_low_surrogate u) None (prepend (encode_utf8 u) p))) (content-line (after_high u) xs) (content-line plain xs)) (code_unit a b c d)
content-line (after_high h) [] = refl
content-line (after_high h) (s ∷ []) = refl
content-line (after_high h) (s ∷ u ∷ []) = refl
content-line (after_high h) (s ∷ u ∷ a ∷ []) = refl
content-line (after_high h) (s ∷ u ∷ a ∷ b ∷ []) = refl
content-line (after_high h) (s ∷ u ∷ a ∷ b ∷ c ∷ []) = ap (λ o. cond ((s == 92) && (u == 117)) (option_and_then (of_pair h []) o) None) (no_unit a b c) ∙ cond_same ((s == 92) && (u == 117)) None
content-line (after_high h) (s ∷ u ∷ a ∷ b ∷ c ∷ d ∷ xs) =
    ap (λ o. cond ((s == 92) && (u == 117)) o None)
    (and_then_same (of_pair h (line xs)) (of_pair h xs) (λ l. ap (λ p. cond (is_low_surrogate l) (prepend (encode_utf8 (surrogate_pair h l)) p) None) (content-line plain xs)) (code_unit a b c d))

-- ---- a word

ends_word-line : (t : List ℕ) → ends_word (line t) ≡ ends_word t
ends_word-line [] = refl
ends_word-line (x ∷ xs) = refl

true-line : (t : List ℕ) → literal true_text (boolean true) (line t) ≡ literal true_text (boolean true) t
true-line [] = refl
true-line (a ∷ []) = refl
true-line (a ∷ b ∷ []) = refl
true-line (a ∷ b ∷ c ∷ []) = refl
true-line (a ∷ b ∷ c ∷ d ∷ t) = ap (λ e. cond (starts_with nat_eq (a ∷ b ∷ c ∷ d ∷ []) true_text && e) (boolean true) bad) (ends_word-line t)

false-line : (t : List ℕ) → literal false_text (boolean false) (line t) ≡ literal false_text (boolean false) t
false-line [] = refl
false-line (a ∷ []) = refl
false-line (a ∷ b ∷ []) = refl
false-line (a ∷ b ∷ c ∷ []) = refl
false-line (a ∷ b ∷ c ∷ d ∷ []) = refl
false-line (a ∷ b ∷ c ∷ d ∷ e ∷ t) = ap (λ w. cond (starts_with nat_eq (a ∷ b ∷ c ∷ d ∷ e ∷ []) false_text && w) (boolean false) bad) (ends_word-line t)

null-line : (t : List ℕ) → literal null_text null (line t) ≡ literal null_text null t
null-line [] = refl
null-line (a ∷ []) = refl
null-line (a ∷ b ∷ []) = refl
null-line (a ∷ b ∷ c ∷ []) = refl
null-line (a ∷ b ∷ c ∷ d ∷ t) = ap (λ e. cond (starts_with nat_eq (a ∷ b ∷ c ∷ d ∷ []) null_text && e) null bad) (ends_word-line t)

-- ---- a number

cond-line : (b : Bool) (s t : List ℕ) → cond b (line s) (line t) ≡ line (cond b s t)
cond-line true s t = refl
cond-line false s t = refl

cond-lines : (b : Bool) (o p : Option (List ℕ)) → cond b (lines o) (lines p) ≡ lines (cond b o p)
cond-lines true o p = refl
cond-lines false o p = refl

and_then-lines : (f : List ℕ → Option (List ℕ)) → ((t : List ℕ) → f (line t) ≡ lines (f t)) → (o : Option (List ℕ)) → option_and_then f (lines o) ≡ lines (option_and_then f o)
and_then-lines f h None = refl
and_then-lines f h (Some t) = h t

digits-line : (t : List ℕ) → prefix_len is_ascii_digit (line t) ≡ prefix_len is_ascii_digit t
digits-line [] = refl
digits-line (x ∷ t) = ap (λ n. cond (is_ascii_digit x) (1 + n) 0) (digits-line t)

after_digits-line : (t : List ℕ) → after_digits (line t) ≡ lines (after_digits t)
after_digits-line t =
    let n = prefix_len is_ascii_digit t in
    ap (λ m. cond (m == 0) None (Some (drop m (line t)))) (digits-line t)
    ∙ ap (λ r. cond (n == 0) None (Some r)) (drop-append-le n t (10 ∷ []) (prefix_len-le-length is_ascii_digit t))
    ∙ cond-lines (n == 0) None (Some (drop n t))

after_minus-line : (t : List ℕ) → after_minus (line t) ≡ line (after_minus t)
after_minus-line [] = refl
after_minus-line (x ∷ t) = cond-line (x == 45) t (x ∷ t)

after_sign-line : (t : List ℕ) → after_sign (line t) ≡ line (after_sign t)
after_sign-line [] = refl
after_sign-line (x ∷ t) = cond-line ((x == 45) || (x == 43)) t (x ∷ t)

after_whole-line : (t : List ℕ) → after_whole (line t) ≡ lines (after_whole t)
after_whole-line [] = refl
after_whole-line (x ∷ t) = ap (λ o. cond (x == 48) (Some (line t)) o) (after_digits-line (x ∷ t)) ∙ cond-lines (x == 48) (Some t) (after_digits (x ∷ t))

after_fraction-line : (t : List ℕ) → after_fraction (line t) ≡ lines (after_fraction t)
after_fraction-line [] = refl
after_fraction-line (x ∷ t) = ap (λ o. cond (x == 46) o (Some (line (x ∷ t)))) (after_digits-line t) ∙ cond-lines (x == 46) (after_digits t) (Some (x ∷ t))

after_exponent-line : (t : List ℕ) → after_exponent (line t) ≡ lines (after_exponent t)
after_exponent-line [] = refl
after_exponent-line (x ∷ t) =
    ap (λ o. cond ((x == 101) || (x == 69)) o (Some (line (x ∷ t)))) (ap after_digits (after_sign-line t) ∙ after_digits-line (after_sign t))
    ∙ cond-lines ((x == 101) || (x == 69)) (after_digits (after_sign t)) (Some (x ∷ t))

after_number-line : (t : List ℕ) → after_number (line t) ≡ lines (after_number t)
unfolding after_number
after_number-line t =
    let whole = after_whole (after_minus t) in
    ap (λ o. option_and_then after_exponent (option_and_then after_fraction o)) (ap after_whole (after_minus-line t) ∙ after_whole-line (after_minus t))
    ∙ ap (option_and_then after_exponent) (and_then-lines after_fraction after_fraction-line whole)
    ∙ and_then-lines after_exponent after_exponent-line (option_and_then after_fraction whole)

number_before-line : (t : List ℕ) (o : Option (List ℕ)) → number_before (line t) (lines o) ≡ number_before t o
number_before-line t None = refl
number_before-line t (Some r) =
    let n = length t - length r in
    let same : length (line t) - length (line r) ≡ n = omega (arith, length-append t (10 ∷ []), length-append r (10 ∷ [])) in
    let kept : take (length (line t) - length (line r)) (line t) ≡ take n t = ap (λ m. take m (line t)) same ∙ take-append-le n t (10 ∷ []) (omega arith) in
    ap₂ (λ e s. cond e (number s) bad) (ends_word-line r) kept

word-line : (x : ℕ) (t : List ℕ) → word (x ∷ line t) ≡ word (x ∷ t)
unfolding word
word-line x t =
    let u = x ∷ t in
    let as_number = ap (number_before (line u)) (after_number-line u) ∙ number_before-line u (after_number u) in
    ap₂ (λ p q. cond (x == 116) p q) (true-line u) (ap₂ (λ p q. cond (x == 102) p q) (false-line u) (ap₂ (λ p q. cond (x == 110) p q) (null-line u) as_number))

-- ---- the text

byte-line : (m : Mode) (c : Class) (x : ℕ) (xs : List ℕ) (k l : Mode → List Lexeme) → ((n : Mode) → k n ≡ l n) → lex_byte m c x (line xs) k ≡ lex_byte m c x xs l
byte-line between quote x xs k l h = ap₂ (λ o ls. token (string_token o) ∷ ls) (content-line plain xs) (h in_string)
byte-line between backslash x xs k l h = ap (λ ls. token bad ∷ ls) (h in_word)
byte-line between operator x xs k l h = ap (λ ls. operator_lexeme x ∷ ls) (h between)
byte-line between space x xs k l h = h between
byte-line between other x xs k l h = ap₂ (λ t ls. token t ∷ ls) (word-line x xs) (h in_word)
byte-line in_word quote x xs k l h = h in_word
byte-line in_word backslash x xs k l h = h in_word
byte-line in_word operator x xs k l h = ap (λ ls. operator_lexeme x ∷ ls) (h between)
byte-line in_word space x xs k l h = h between
byte-line in_word other x xs k l h = h in_word
byte-line in_string quote x xs k l h = h between
byte-line in_string backslash x xs k l h = h in_escape
byte-line in_string operator x xs k l h = h in_string
byte-line in_string space x xs k l h = h in_string
byte-line in_string other x xs k l h = h in_string
byte-line in_escape c x xs k l h = h in_string

lex-line : (m : Mode) (xs : List ℕ) → lex m (line xs) ≡ lex m xs
unfolding lex
lex-line between [] = refl
lex-line in_word [] = refl
lex-line in_string [] = refl
lex-line in_escape [] = refl
lex-line m (x ∷ xs) = byte-line m (class x) x xs (λ n. lex n (line xs)) (λ n. lex n xs) (λ n. lex-line n xs)

pub tokens-line : (text : List ℕ) → tokens (text ++ 10 ∷ []) ≡ tokens text
tokens-line text = ap (punctuate fresh) (lex-line between text)

-- The names in a sample: a letter and digits, which a scanner finds.
use Rattle.std.proofs.Common.{◌≡◌, ℕ, ◌≤◌, ◌<◌, ◌^◌, List, [], ◌∷◌, ◌++◌, refl, ap, ◌∙◌, arith, cond, true, false, ◌||◌, ◌==◌, Some}
use Rattle.std.proofs.lemmas.Bool.Decides.{nat_tests}
use Rattle.std.proofs.lemmas.Fmt.{decimal_is_IsNumeral}
use Rattle.std.specs.Char.{digit_value, is_ascii_alphanumeric}
use Rattle.std.specs.Fmt.{decimal}
use Rattle.std.specs.List.{AllByRecursion}
use Rattle.std.specs.Str.Parse.{AllDigits}
use Rattle.unicode_ident.proofs.Computing.{unicode_ident}
use Rattle.unicode_ident.proofs.IdentLemmas.{is_xid_continue-ascii}
use Rattle.unicode_ident.specs.Ident.{is_xid_continue}
use Rattle.literals.specs.Scanning.{skip}
use Rattle.tokens.specs.declared.token.TokenKind.TheVariants.{Ident}
use Rattle.lexing.specs.declared.piece.PieceKind.TheVariants.{Space, Token}
use Rattle.lexing.specs.Scanning.{class_of, piece_at}
use Rattle.samples.specs.Rings.{Turn, plain_struct, generic_struct, tagged_enum, letter, turn, name}

-- a digit from 0 to 9
abbrev pub IsDigit : ℕ → Type 0
IsDigit d = (48 ≤ d) × (d ≤ 57)

-- a decimal is some
decimal_digit : (d : ℕ) → digit_value d < 10 → IsDigit d
decimal_digit d h = grind (arith, nat_tests)

digits_of : (ds : List ℕ) → AllDigits 10 ds → AllByRecursion IsDigit ds
digits_of [] h = tt
digits_of (d ∷ ds) h = (decimal_digit d h.0, digits_of ds h.1)

pub decimal_digits : (i : ℕ) → i < 2 ^ 64 → AllByRecursion IsDigit (decimal i)
decimal_digits i small = digits_of (decimal i) (decimal_is_IsNumeral i small).0.1

-- a digit goes on with a name, which ends where something else follows
digit_alphanumeric : (d : ℕ) → IsDigit d → (is_ascii_alphanumeric d || (d == 95)) ≡ true
digit_alphanumeric d h = grind (arith, nat_tests)

digit_continues : (d : ℕ) → IsDigit d → is_xid_continue d ≡ true
digit_continues d h = let small : d < 128 = omega arith in is_xid_continue-ascii d small ∙ digit_alphanumeric d h

digits_skipped : (ds : List ℕ) (c : ℕ) (rest : List ℕ) → AllByRecursion IsDigit ds → is_xid_continue c ≡ false
    → skip is_xid_continue (ds ++ c ∷ rest) ≡ c ∷ rest
digits_skipped [] c rest h e = ap (λ v. cond v (skip is_xid_continue rest) (c ∷ rest)) e
digits_skipped (d ∷ ds) c rest h e =
    let others = ds ++ c ∷ rest in
    ap (λ v. cond v (skip is_xid_continue others) (d ∷ others)) (digit_continues d h.0) ∙ digits_skipped ds c rest h.1 e

-- a name begins with its letter
letter_found : (t : Turn) (cs : List ℕ) → piece_at (letter t ∷ cs) ≡ Some (Token Ident, skip is_xid_continue cs)
unfolding class_of unicode_ident
letter_found plain_struct cs = refl
letter_found generic_struct cs = refl
letter_found tagged_enum cs = refl

-- and a blank ends where one begins
letter_after_space : (t : Turn) (cs : List ℕ) → piece_at (32 ∷ letter t ∷ cs) ≡ Some (Space, letter t ∷ cs)
unfolding class_of unicode_ident
letter_after_space plain_struct cs = refl
letter_after_space generic_struct cs = refl
letter_after_space tagged_enum cs = refl

-- the text is found as a name where something else follows, and so is a space before it
pub record IsFoundName (text : List ℕ) : Type 0 where
  pub found : (c : ℕ) (rest : List ℕ) → is_xid_continue c ≡ false → piece_at (text ++ c ∷ rest) ≡ Some (Token Ident, c ∷ rest)
  pub after_space : (rest behind : List ℕ) → piece_at (32 ∷ ((text ++ rest) ++ behind)) ≡ Some (Space, (text ++ rest) ++ behind)

-- the names of a sample are found
pub name_found : (i : ℕ) → i < 2 ^ 64 → IsFoundName (name i)
name_found i small = record {
  found = λ c rest e.
      let ends = digits_skipped (decimal i) c rest (decimal_digits i small) e in
      letter_found (turn i) (decimal i ++ c ∷ rest) ∙ ap (λ v. Some (Token Ident, v)) ends;
  after_space = λ rest behind. letter_after_space (turn i) ((decimal i ++ rest) ++ behind);
}

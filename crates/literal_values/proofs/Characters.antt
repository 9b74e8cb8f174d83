-- Characters before a value.
use Rattle.std.proofs.Common.{◌≡◌, ℕ, ◌+◌, ◌*◌, ◌<◌, List, [], ◌∷◌, ◌++◌, refl, ap, sym, ◌∙◌, arith, cond, true, false, Option, Some, None, option_map, append_assoc, ◌&&◌, nat_lt}
use Rattle.std.proofs.lemmas.Bool.Decides.{nat_tests}
use Rattle.std.specs.Prelude.{encode_utf8}
use Rattle.std.specs.Char.{IsScalar, digit_value}
use Rattle.literal_values.specs.Values.{put, after_x, unescaped}

before_nothing : (o : Option (List ℕ)) → option_map (λ bytes. [] ++ bytes) o ≡ o
before_nothing None = refl
before_nothing (Some bytes) = refl

before_more : (value : List ℕ) (c : ℕ) (o : Option (List ℕ)) → option_map (λ bytes. (value ++ encode_utf8 c) ++ bytes) o ≡ option_map (λ bytes. value ++ bytes) (put c o)
before_more value c None = refl
before_more value c (Some bytes) = ap Some (append_assoc value (encode_utf8 c) bytes)

-- the value so far, before that of what is left
pub begins : (value : List ℕ) (whole : Option (List ℕ)) → value ≡ [] → option_map (λ bytes. value ++ bytes) whole ≡ whole
begins value whole e = ap (λ v. option_map (λ bytes. v ++ bytes) whole) e ∙ before_nothing whole

pub stays : (value : List ℕ) (left now whole : Option (List ℕ)) → now ≡ left → option_map (λ bytes. value ++ bytes) now ≡ whole → option_map (λ bytes. value ++ bytes) left ≡ whole
stays value left now whole e h = ap (option_map (λ bytes. value ++ bytes)) (sym e) ∙ h

pub grows : (value more : List ℕ) (c : ℕ) (left now whole : Option (List ℕ)) → more ≡ value ++ encode_utf8 c → now ≡ put c left → option_map (λ bytes. value ++ bytes) now ≡ whole → option_map (λ bytes. more ++ bytes) left ≡ whole
grows value more c left now whole g e h =
    ap (λ v. option_map (λ bytes. v ++ bytes) left) g ∙ before_more value c left ∙ ap (option_map (λ bytes. value ++ bytes)) (sym e) ∙ h

pub ascii_is_scalar : (high low : ℕ) → high < 8 → low < 16 → IsScalar (high * 16 + low)
ascii_is_scalar high low h l = grind (arith, nat_tests)

pub reads_seven_bits : (text rest cs : List ℕ) (high low code : ℕ) → text ≡ high ∷ rest → rest ≡ low ∷ cs → digit_value high < 8 → digit_value low < 16 → code ≡ digit_value high * 16 + digit_value low → after_x text ≡ put code (unescaped false cs)
reads_seven_bits text rest cs high low code t r h l e =
    let octal : nat_lt (digit_value high) 8 ≡ true = grind (arith, nat_tests) in
    let hexadecimal : nat_lt (digit_value low) 16 ≡ true = grind (arith, nat_tests) in
    let found : Option (List ℕ) = put (digit_value high * 16 + digit_value low) (unescaped false cs) in
    ap after_x (t ∙ ap (λ v. high ∷ v) r) ∙ ap (λ v. cond (v && nat_lt (digit_value low) 16) found None) octal ∙ ap (λ v. cond v found None) hexadecimal
    ∙ ap (λ v. put v (unescaped false cs)) (sym e)

-- CR LF as LF, one character after another.
use Rattle.std.proofs.Common.{◌≡◌, ◌∙◌, refl, ap, sym, subst, arith, ℕ, List, [], ◌∷◌, ◌++◌, Bool, true, false, not, cond, ◌&&◌, ◌==◌}
use Rattle.std.proofs.lemmas.Bool.{eqb-true, or_parts}
use Rattle.std.proofs.lemmas.List.Folds.{list_any-append}
use Rattle.std.proofs.lemmas.Str.{encode_ascii, encodes-chars}
use Rattle.std.specs.List.{list_any}
use Rattle.std.specs.Prelude.{encode_utf8}
use Rattle.std.specs.Str.{chars, IsUtf8, encode_utf8_all}
use Rattle.prepare.specs.FileTexts.{with_feeds, begins_with_feed}
use Rattle.prepare.specs.Returns.{waiting, written_at}

first : (c : ℕ) (rest : List ℕ) (b : Bool) → (c == 13) ≡ b → with_feeds (c ∷ rest) ≡ cond b [] (c ∷ []) ++ with_feeds (waiting b ++ rest)
first c rest true e = let same : c ≡ 13 = eqb-true c 13 e in subst (λ x. with_feeds (x ∷ rest) ≡ with_feeds (13 ∷ rest)) (sym same) refl
first c rest false e = ap (λ b. cond (b && begins_with_feed rest) (with_feeds rest) (c ∷ with_feeds rest)) e

second : (c : ℕ) (rest : List ℕ) (b : Bool) → (c == 10) ≡ b → with_feeds (13 ∷ c ∷ rest) ≡ (cond (not b) (13 ∷ []) [] ++ cond (c == 13) [] (c ∷ [])) ++ with_feeds (waiting (c == 13) ++ rest)
second c rest true e = ap (λ b. cond b (with_feeds (c ∷ rest)) (13 ∷ with_feeds (c ∷ rest))) e ∙ first c rest (c == 13) refl
second c rest false e = ap (λ b. cond b (with_feeds (c ∷ rest)) (13 ∷ with_feeds (c ∷ rest))) e ∙ ap (λ xs. 13 ∷ xs) (first c rest (c == 13) refl)

-- what is made of a character before others, with what waits before it
pub one_step : (waits : Bool) (c : ℕ) (rest : List ℕ) → with_feeds (waiting waits ++ c ∷ rest) ≡ written_at waits c ++ with_feeds (waiting (c == 13) ++ rest)
one_step false c rest = first c rest (c == 13) refl
one_step true c rest = second c rest (c == 10) refl

-- ---- without carriage returns

encoded_any : (c : ℕ) (rest : List ℕ) → list_any (λ b. b == 13) (encode_utf8 c ++ rest) ≡ false → (list_any (λ b. b == 13) (encode_utf8 c) ≡ false) × (list_any (λ b. b == 13) rest ≡ false)
encoded_any c rest e = or_parts (list_any (λ b. b == 13) (encode_utf8 c)) (list_any (λ b. b == 13) rest) (sym (list_any-append (λ b. b == 13) (encode_utf8 c) rest) ∙ e)

no_return : (c : ℕ) (b : Bool) → (c == 13) ≡ b → list_any (λ b. b == 13) (encode_utf8 c) ≡ false → b ≡ false
no_return c false e h = refl
no_return c true e h =
    let is : c ≡ 13 = eqb-true c 13 e in
    let found : list_any (λ b. b == 13) (encode_utf8 13) ≡ false = subst (λ v. list_any (λ b. b == 13) (encode_utf8 v) ≡ false) is h in
    let itself : list_any (λ b. b == 13) (13 ∷ []) ≡ false = ap (list_any (λ b. b == 13)) (sym (encode_ascii 13 (omega arith))) ∙ found in
    cc

kept : (cs : List ℕ) → list_any (λ b. b == 13) (encode_utf8_all cs) ≡ false → with_feeds cs ≡ cs
kept [] h = refl
kept (c ∷ cs) h =
    let parts = encoded_any c (encode_utf8_all cs) h in
    let other = no_return c (c == 13) refl parts.0 in
    ap (λ b. cond (b && begins_with_feed cs) (with_feeds cs) (c ∷ with_feeds cs)) other ∙ ap (λ v. c ∷ v) (kept cs parts.1)

-- a text without a carriage return is as it is
pub none_left_out : (text : List ℕ) → IsUtf8 text → list_any (λ b. b == 13) text ≡ false → encode_utf8_all (with_feeds (chars text)) ≡ text
none_left_out text utf8 h =
    let same : encode_utf8_all (chars text) ≡ text = encodes-chars text utf8 in
    ap encode_utf8_all (kept (chars text) (ap (list_any (λ b. b == 13)) same ∙ h)) ∙ same

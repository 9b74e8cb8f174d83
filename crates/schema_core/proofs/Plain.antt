-- A text of plain bytes stands in a JSON string as it is.
use Rattle.std.proofs.Common.{◌≡◌, ◌≤◌, ℕ, List, [], ◌∷◌, ◌++◌, All, false, ◌==◌, nat_lt, arith, refl, ap₂}
use Rattle.std.proofs.lemmas.Bool.Decides.{nat_tests}
use Rattle.std.proofs.lemmas.List.Elements.{All-head, All-tail}
use Rattle.json.specs.Print.{escape, escape_byte}
use Rattle.schema_core.specs.Writes.{IsPlain}

differs : (b k : ℕ) → (b ≡ k → ⊥) → (b == k) ≡ false
differs b k h = grind (arith, nat_tests)

not_below : (b : ℕ) → 32 ≤ b → nat_lt b 32 ≡ false
not_below b h = grind (arith, nat_tests)

stands : (b : ℕ) → IsPlain b → escape_byte b ≡ b ∷ []
unfolding escape_byte
stands b h =
    let quote = differs b 34 h.1 in
    let backslash = differs b 92 h.2 in
    let backspace = differs b 8 (λ e. omega (arith, e, h.0)) in
    let feed = differs b 12 (λ e. omega (arith, e, h.0)) in
    let line = differs b 10 (λ e. omega (arith, e, h.0)) in
    let back = differs b 13 (λ e. omega (arith, e, h.0)) in
    let tab = differs b 9 (λ e. omega (arith, e, h.0)) in
    let printed = not_below b h.0 in
    rw (quote, backslash, backspace, feed, line, back, tab, printed) refl

pub plain_stands : (bytes : List ℕ) → All IsPlain bytes → escape bytes ≡ bytes
plain_stands [] h = refl
plain_stands (b ∷ bytes) h = ap₂ (λ x y. x ++ y) (stands b (All-head IsPlain b bytes h)) (plain_stands bytes (All-tail IsPlain b bytes h))

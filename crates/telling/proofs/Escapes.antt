-- The characters of an escape.
use Rattle.std.proofs.Common.{◌≡◌, ℕ, length, ◌∷◌, [], take, drop, cond, true, false, unwrap_or, ap, subst}
use Rattle.std.proofs.lemmas.Iterator.{YieldsList}
use Rattle.std.proofs.lemmas.Iterator.Consumers.{YieldsList-from_shown}
use Rattle.std.specs.Char.Escape.{escape_unicode}
use Rattle.std.specs.Char.Iter.{escape_rest, escape_steps}
use Rattle.unicode_width.specs.Width.{char_width}
use Rattle.telling.specs.Printable.{is_command}
use Rattle.telling.specs.Told.{columns}

pub escape_yields : {s : _} (c : ℕ) → escape_rest s ≡ escape_unicode c → YieldsList escape_steps (λ x. x) s (escape_unicode c)
escape_yields {s} c is =
    subst (YieldsList escape_steps (λ x. x) s) is
    (YieldsList-from_shown escape_steps (λ x. x) escape_rest (λ t u none. ap (λ n. length (take n (drop t.from t.chars))) none.1.0) (λ t x u some. some.1.0) s)

pub columns_of_command : (c : ℕ) → is_command c ≡ true → columns c ≡ length (escape_unicode c)
columns_of_command c is = ap (λ b. cond b (length (cond b (escape_unicode c) (c ∷ []))) (unwrap_or (char_width false c) 0)) is

-- Spans by their ends.
use Rattle.std.proofs.Common.{◌≡◌, ◌≤◌, ℕ, ap, subst}
use Rattle.std.specs.Coded.{le_prop}
use Rattle.texts.specs.declared.span.Span.{Span}

-- a span with these ends is the one that is made of them
pub span_of : (t : Span) (a b : ℕ) (h : a ≤ b) → t.start ≡ a → t.end ≡ b → t ≡ (let s : Span = record { start = a; end = b; ordered = h } in s)
span_of t a b h e f =
    let make : (x y : ℕ) → x ≤ y → Span = λ x y l. record { start = x; end = y; ordered = l } in
    let at_ends : (l : t.start ≤ t.end) → t ≡ make t.start t.end l = λ l. ap (make t.start t.end) (le_prop t.ordered l) in
    let at_start : (y : ℕ) (l : t.start ≤ y) → t.end ≡ y → t ≡ make t.start y l = λ y l g. subst (λ v. (m : t.start ≤ v) → t ≡ make t.start v m) g at_ends l in
    subst (λ v. (l : v ≤ b) → t ≡ make v b l) e (λ l. at_start b l f) h

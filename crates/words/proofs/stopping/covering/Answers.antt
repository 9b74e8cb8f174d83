use Rattle.std.proofs.Common.{◌≡◌, ◌≤◌, ℕ, ap, subst, sym}
use Rattle.std.specs.Coded.{le_prop}
use Rattle.std.specs.Prelude.{max}
use Rattle.std.proofs.Math.Nat.{le-max_left}
use Rattle.texts.specs.declared.span.Span.{Span}
use Rattle.words.specs.Words.{cover}
use Rattle.words.proofs.stopping.covering.Goals as goal

cover-by : (a b : Span) (e : ℕ) → e ≡ max a.start b.end → (h : a.start ≤ e) → record { start = a.start; end = e; ordered = h } ≡ cover a b
unfolding cover
cover-by a b e k =
    let P : ℕ → Type 0 = λ v. (h : a.start ≤ v) → let s : Span = record { start = a.start; end = v; ordered = h } in s ≡ cover a b in
    subst P (sym k) (λ h. ap (λ (p : a.start ≤ max a.start b.end). let s : Span = record { start = a.start; end = max a.start b.end; ordered = p } in s) (le_prop h (le-max_left a.start b.end)))

pub returns : goal.returns
returns c = cover-by c.args.first c.args.last c.max.result c.max.ensures _

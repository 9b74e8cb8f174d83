-- The span of what stands nowhere in a source.
use Rattle.std.specs.Prelude.{◌≤◌, ◌≡◌}
use Rattle.std.specs.Coded.{le_prop}
use Rattle.std.proofs.Common.{lit≤, ap}
use Rattle.texts.specs.declared.span.Span.{Span}

abbrev pub no_span : Span
no_span = record { start = 0; end = 0; ordered = lit≤ tt }

-- a span from 0 to 0 is that one
pub no_span-by : (h : 0 ≤ 0) → record { start = 0; end = 0; ordered = h } ≡ no_span
no_span-by h = ap (λ (p : 0 ≤ 0). let s : Span = record { start = 0; end = 0; ordered = p } in s) (le_prop h (lit≤ tt))

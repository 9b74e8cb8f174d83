-- A source and what stands of it.
use Rattle.std.specs.Prelude.{◌≡◌, ◌⊎◌, ℕ, ◌≤◌, List, length}
use Rattle.diag.specs.Refusal.{IsSyntaxRefusal}
use Rattle.diag.specs.declared.error.DeriveError.{DeriveError}
use Rattle.diag.specs.declared.error.DeriveError.TheVariants as errors
use Rattle.texts.specs.declared.span.Span.{Span}
use Rattle.tokens.specs.Trees.{Trees}
use Rattle.lexing.specs.Cut.{IsCut, StopsAt}
use Rattle.prepare.specs.declared.item.Standing.{Standing}
use Rattle.prepare.specs.declared.item.Stop.{Stop}
use Rattle.prepare.specs.declared.item.Stop.TheVariants as stop
use Rattle.prepare.specs.Trees.{listed}
use Rattle.prepare.specs.Standing.{StandInside, StopInside}

-- the source is cut into trees, which are a file of which this stands
abbrev pub IsFile : List ℕ → List Standing → Type 0
IsFile source standing = (trees : Trees) × IsCut source trees × StandInside (listed trees) standing

-- the source has no trees, or else the first of its trees that is no item begins at the span
abbrev pub IsStop : List ℕ → Span → Type 0
IsStop source span = StopsAt source span ⊎ ((trees : Trees) × IsCut source trees × StopInside (listed trees) span)

-- the error refuses a source that is no file, at a span of it
abbrev pub IsNoFile : List ℕ → DeriveError → Type 0
IsNoFile source e = (span : Span) × IsSyntaxRefusal span e × (span.end ≤ length source) × ((standing : List Standing) → ¬ (IsFile source standing)) × IsStop source span

-- the error that tells why reading stopped
abbrev pub IsRefusalOf : Stop → DeriveError → Type 0
IsRefusalOf stop.Memory e = e ≡ errors.Memory
IsRefusalOf (stop.At at) e = (e ≡ errors.Memory) ⊎ IsSyntaxRefusal at e

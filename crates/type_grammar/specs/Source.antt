-- The text of a type.
use Rattle.std.specs.Prelude.{◌≡◌, ℕ, ◌≤◌, ◌⊎◌, List, [], length}
use Rattle.diag.specs.Refusal.{IsSyntaxRefusal, IsDepthRefusal}
use Rattle.diag.specs.declared.error.DeriveError.{DeriveError}
use Rattle.diag.specs.declared.error.DeriveError.TheVariants as errors
use Rattle.texts.specs.declared.span.Span.{Span}
use Rattle.tokens.specs.Trees.{Trees, depth}
use Rattle.words.specs.declared.stopping.Stop.{Stop}
use Rattle.words.specs.declared.stopping.Stop.TheVariants as stop
use Rattle.words.specs.Words.{words_of}
use Rattle.lexing.specs.Cut.{IsCut, OpensTooDeep, most_open}
use Rattle.written_types.specs.Written.{Written}
use Rattle.type_grammar.specs.Grammar.{IsType}
use Rattle.type_grammar.specs.Opening.{OpensType, most_levels}

-- the text is cut into trees, and these are one type
abbrev pub ReadsType : List ℕ → Written → Type 0
ReadsType text t = (trees : Trees) × IsCut text trees × IsType (words_of trees) t []

-- brackets nest deeper than 64 levels, or else parts of the type do, and the first that is too deep begins at the span
abbrev pub TypeNestsTooDeep : List ℕ → Span → Type 0
TypeNestsTooDeep text span = OpensTooDeep text span ⊎ ((trees : Trees) × IsCut text trees × (depth trees ≤ most_open) × OpensType most_levels (words_of trees) span)

-- the error refuses a text that is no type, at a span of it
abbrev pub IsNoType : List ℕ → DeriveError → Type 0
IsNoType text e = (span : Span) × IsSyntaxRefusal span e × (span.end ≤ length text) × ((t : Written) → ¬ (ReadsType text t))

-- the error refuses a text of a type that nests too deep, where it does
abbrev pub IsDeepType : List ℕ → DeriveError → Type 0
IsDeepType text e = (span : Span) × IsDepthRefusal span e × TypeNestsTooDeep text span

-- ---- where reading stops

-- an error of the kind at a span of a text with so many bytes
abbrev pub IsPlaced : ℕ → DeriveError → Type 0
IsPlaced bytes e = (span : Span) × IsSyntaxRefusal span e × (span.end ≤ bytes)

-- the error that tells why reading stopped, in a text of so many bytes
abbrev pub IsRefusalOf : Stop → ℕ → DeriveError → Type 0
IsRefusalOf (stop.Unexpected at) bytes e = (e ≡ errors.Memory) ⊎ IsPlaced bytes e
IsRefusalOf stop.Ended bytes e = (e ≡ errors.Memory) ⊎ IsPlaced bytes e
IsRefusalOf (stop.Deep at) bytes e = (e ≡ errors.Memory) ⊎ IsDepthRefusal at e
IsRefusalOf stop.Memory bytes e = e ≡ errors.Memory

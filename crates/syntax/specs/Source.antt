-- A source and its declarations.
use Rattle.std.specs.Prelude.{ℕ, ◌≤◌, ◌⊎◌, List, length}
use Rattle.diag.specs.Refusal.{IsSyntaxRefusal, IsDepthRefusal}
use Rattle.diag.specs.declared.error.DeriveError.{DeriveError}
use Rattle.texts.specs.declared.span.Span.{Span}
use Rattle.tokens.specs.Trees.{Trees, depth}
use Rattle.words.specs.Words.{words_of}
use Rattle.lexing.specs.Cut.{IsCut, OpensTooDeep, most_open}
use Rattle.syntax.specs.Items.{DeclaredItem}
use Rattle.syntax.specs.ItemGrammar.{IsSource}
use Rattle.syntax.specs.ItemDepth.{OpensSource}

-- the source is cut into trees, and these are a source of the grammar
abbrev pub Reads : List ℕ → List DeclaredItem → Type 0
Reads source ds = (trees : Trees) × IsCut source trees × IsSource (words_of trees) ds

-- brackets nest deeper than 64 levels, or else types do, and the first that is too deep begins at the span
abbrev pub NestsTooDeep : List ℕ → Span → Type 0
NestsTooDeep source span = OpensTooDeep source span ⊎ ((trees : Trees) × IsCut source trees × (depth trees ≤ most_open) × OpensSource (words_of trees) span)

-- the error refuses a source that has no reading, at a span of it
abbrev pub IsUnreadable : List ℕ → DeriveError → Type 0
IsUnreadable source e = (span : Span) × IsSyntaxRefusal span e × (span.end ≤ length source) × ((ds : List DeclaredItem) → ¬ (Reads source ds))

-- the error refuses a source that nests too deep, where it does
abbrev pub IsTooDeep : List ℕ → DeriveError → Type 0
IsTooDeep source e = (span : Span) × IsDepthRefusal span e × NestsTooDeep source span

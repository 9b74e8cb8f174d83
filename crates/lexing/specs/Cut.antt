-- A source and its token trees.
use Rattle.std.specs.Prelude.{◌≡◌, ℕ, ◌≤◌, List, [], length, chars}
use Rattle.diag.specs.Refusal.{IsErrorFor, IsSyntaxRefusal, IsDepthRefusal}
use Rattle.diag.specs.declared.error.DeriveError.{DeriveError}
use Rattle.diag.specs.declared.error.DeriveError.TheVariants as errors
use Rattle.texts.specs.declared.span.Span.{Span}
use Rattle.tokens.specs.Trees.{Trees}
use Rattle.lexing.specs.declared.piece.LexError.{LexError}
use Rattle.lexing.specs.declared.piece.LexError.TheVariants.{Memory, TooDeep, Stopped}
use Rattle.lexing.specs.declared.piece.Piece.{Piece}
use Rattle.lexing.specs.Pieces.{Cuts}
use Rattle.lexing.specs.Nesting.{IsTrees, Opens}

-- the most brackets that may be open at a place
abbrev pub most_open : ℕ
most_open = 64

-- the source's pieces nest as these trees
abbrev pub IsCut : List ℕ → Trees → Type 0
IsCut source trees = (pieces : List Piece) × Cuts pieces 0 (chars source) × IsTrees source pieces trees []

-- among the source's pieces, the bracket of the span is the first to open inside as many as may be open
abbrev pub OpensTooDeep : List ℕ → Span → Type 0
OpensTooDeep source span = (pieces : List Piece) × Cuts pieces 0 (chars source) × Opens source most_open pieces span

-- the span is one of the source, which has no token trees
abbrev pub StopsAt : List ℕ → Span → Type 0
StopsAt source span = (span.end ≤ length source) × ((trees : Trees) → ¬ (IsCut source trees))

-- the error refuses a source at the first bracket that opens too deep
abbrev pub IsDepthError : List ℕ → DeriveError → Type 0
IsDepthError source e = (span : Span) × IsDepthRefusal span e × OpensTooDeep source span

-- the error refuses a source that has no token trees, at a span of it
abbrev pub IsSyntaxError : List ℕ → DeriveError → Type 0
IsSyntaxError source e = (span : Span) × IsSyntaxRefusal span e × StopsAt source span

-- why a source is not read: its span is that of such a bracket, or one of a source without token trees
abbrev pub IsUnread : List ℕ → LexError → Type 0
IsUnread source Memory = Unit {0}
IsUnread source (TooDeep span) = OpensTooDeep source span
IsUnread source (Stopped span) = StopsAt source span

-- the refusal is for that error
abbrev pub IsToldOf : LexError → DeriveError → Type 0
IsToldOf Memory told = told ≡ errors.Memory
IsToldOf (TooDeep span) told = IsErrorFor (IsDepthRefusal span) told
IsToldOf (Stopped span) told = IsErrorFor (IsSyntaxRefusal span) told

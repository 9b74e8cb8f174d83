-- What readers of pieces find, up to a closing bracket or the end.
use Rattle.std.specs.Prelude.{◌≡◌, ℕ, ◌≤◌, List, [], ◌∷◌, length, Result, Ok, Err}
use Rattle.std.specs.Borrow.{Bor}
use Rattle.std.specs.Str.{IsCharBoundary}
use Rattle.texts.specs.declared.span.Span.{Span}
use Rattle.tokens.specs.declared.token.Bracket.{Bracket}
use Rattle.tokens.specs.declared.token.TokenTree.{TokenTree}
use Rattle.lexing.specs.declared.piece.LexError.{LexError}
use Rattle.lexing.specs.declared.piece.LexError.TheVariants.{Memory, TooDeep, Stopped}
use Rattle.lexing.specs.declared.piece.Piece.{Piece}
use Rattle.lexing.specs.declared.piece.PieceKind.TheVariants.{Open, Close}
use Rattle.tokens.specs.Trees.{Tree, Trees, group, tree_view, trees_view, depth, depth_of}
use Rattle.lexing.specs.Nesting.{IsTrees, Opens}

-- every piece ends at the offset or later
abbrev pub EndFrom : ℕ → List Piece → Type 0
EndFrom offset [] = Unit {0}
EndFrom offset (p ∷ ps) = (offset ≤ p.span.end) × EndFrom offset ps

-- the pieces lie in the source one after another, each between two of its characters
abbrev pub LieIn : List ℕ → List Piece → Type 0
LieIn source [] = Unit {0}
LieIn source (p ∷ ps) = IsCharBoundary source p.span.start × IsCharBoundary source p.span.end × EndFrom p.span.start ps × LieIn source ps

-- trees cannot go on
abbrev pub Stops : List Piece → Type 0
Stops [] = Unit {0}
Stops (q ∷ ps) = (b : Bracket) × (q.kind ≡ Close b)

-- the bracket that opens too deep, or where reading stopped, in pieces that do not begin with trees
abbrev pub IsUnnested : List ℕ → ℕ → List Piece → LexError → Type 0
IsUnnested source left ps Memory = Unit {0}
IsUnnested source left ps (TooDeep span) = Opens source left ps span
IsUnnested source left ps (Stopped span) = (span.end ≤ length source) × ((ts : Trees) (rest : List Piece) → IsTrees source ps ts rest → Stops rest → ⊥)

abbrev pub Nests : List ℕ → ℕ → List Piece → Result (List TokenTree × Bor (List Piece)) LexError → Type 0
Nests source left ps (Ok p) = IsTrees source ps (trees_view p.0) p.1.now × Stops p.1.now × (depth (trees_view p.0) ≤ left)
Nests source left ps (Err e) = IsUnnested source left ps e

-- the tree is the group of the opening bracket and the pieces after it, and rest is what follows
pub record IsGroup (source : List ℕ) (b : Bracket) (p : Piece) (ps : List Piece) (t : Tree) (rest : List Piece) : Type 0 where
  pub inner : Trees
  pub closing : Piece
  pub span : Span
  pub inside : IsTrees source ps inner (closing ∷ rest)
  pub closes : closing.kind ≡ Close b
  pub start : span.start ≡ p.span.start
  pub stop : span.end ≡ closing.span.end
  pub tree : t ≡ group b inner span

abbrev pub NestsGroup : List ℕ → ℕ → Bracket → Piece → List Piece → Result (TokenTree × Bor (List Piece)) LexError → Type 0
NestsGroup source left b p ps (Ok r) = IsGroup source b p ps (tree_view r.0) r.1.now × (depth_of (tree_view r.0) ≤ left)
NestsGroup source left b p ps (Err e) = p.kind ≡ Open b → IsUnnested source left (p ∷ ps) e

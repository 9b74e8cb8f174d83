-- How far the token trees of a source are read.
use Rattle.std.specs.Prelude.{ℕ, ◌-◌, ◌≤◌, List, [], ◌++◌, length, chars, Option, Some, None}
use Rattle.std.specs.Str.{IsUtf8}
use Rattle.tokens.specs.declared.token.TokenTree.{TokenTree}
use Rattle.tokens.specs.Trees.{Trees, trees_view, depth}
use Rattle.lexing.specs.declared.chunks.Chunks.{Chunks}
use Rattle.lexing.specs.declared.piece.Piece.{Piece}
use Rattle.lexing.specs.Pieces.{Cuts}
use Rattle.lexing.specs.RawStrings.{NoneCloses}
use Rattle.lexing.specs.Nesting.{IsTrees, joined}
use Rattle.lexing.specs.Cut.{most_open, IsCut}

-- how many bytes of the source are left
abbrev pub left_of : Chunks → ℕ
left_of c = length c.rest.now

-- where in the source what is left begins
abbrev pub place_of : Chunks → ℕ
place_of c = length c.source.now - left_of c

-- Pieces were read that nest as these trees, and others are left: together they are the source's.
pub record IsReadTo (c : Chunks) (trees : Trees) : Type 0 where
  pub read : List Piece
  pub left : List Piece
  pub whole : Cuts (read ++ left) 0 (chars c.source.now)
  pub ahead : Cuts left (place_of c) (chars c.rest.now)
  pub nests : IsTrees c.source.now read trees []
  pub shallow : depth trees ≤ most_open
  pub known : NoneCloses c.unclosed (chars c.rest.now)
  pub is_text : IsUtf8 c.source.now
  pub within : left_of c ≤ length c.source.now

-- what comes next, where these trees were read: more of them, or none where they are all of the source's
abbrev pub GoesOn : Chunks → Chunks → Trees → Option (List TokenTree) → Type 0
GoesOn before after trees None = IsCut before.source.now trees
GoesOn before after trees (Some chunk) = IsReadTo after (joined trees (trees_view chunk))

-- Token trees as they are spelled, with the white space between them, and when a text is cut where its spelling says.
use Rattle.std.specs.Prelude.{◌≡◌, ◌+◌, ℕ, List, [], ◌∷◌, ◌++◌, length, Some, IsAscii}
use Rattle.std.proofs.Math.Nat.{le-add_right}
use Rattle.texts.specs.declared.span.Span.{Span}
use Rattle.tokens.specs.declared.token.Bracket.{Bracket}
use Rattle.tokens.specs.declared.token.TokenKind.{TokenKind}
use Rattle.tokens.specs.Trees as trees
use Rattle.tokens.specs.Trees.{Trees, ◌▸◌}
use Rattle.lexing.specs.Cut.{IsCut}
use Rattle.lexing.specs.Pieces.{opening, closing}
use Rattle.lexing.specs.Scanning.{piece_at}
use Rattle.lexing.specs.declared.piece.PieceKind.TheVariants.{Space, Token}

infixr 30 ◌▹◌
mutual
  -- white space, a token of a kind, and what stands in brackets
  pub data Spelled : Type 0 where
    blank : List ℕ → Spelled
    token : TokenKind → List ℕ → Spelled
    group : Bracket → Spelling → Spelled

  pub data Spelling : Type 0 where
    end : Spelling
    ◌▹◌ : Spelled → Spelling → Spelling

-- ---- the text

abbrev mutual
  pub spelled_text : Spelled → List ℕ
  spelled_text (blank cs) = cs
  spelled_text (token kind cs) = cs
  spelled_text (group b inner) = opening b ∷ (text_of inner ++ closing b ∷ [])

  pub text_of : Spelling → List ℕ
  text_of end = []
  text_of (s ▹ rest) = spelled_text s ++ text_of rest

-- ---- the trees

-- the bytes from an offset on, so many
abbrev pub span_from : ℕ → ℕ → Span
span_from offset many = record { start = offset; end = offset + many; ordered = le-add_right offset many }

abbrev mutual
  -- the tree, where the text begins at an offset, and others behind it
  pub tree_before : ℕ → Spelled → Trees → Trees
  tree_before offset (blank cs) rest = rest
  tree_before offset (token kind cs) rest = trees.token (record { kind = kind; text = cs; span = span_from offset (length cs) }) ▸ rest
  tree_before offset (group b inner) rest = trees.group b (trees_at (offset + 1) inner) (span_from offset (length (spelled_text (group b inner)))) ▸ rest

  -- the trees of a text that begins at an offset
  pub trees_at : ℕ → Spelling → Trees
  trees_at offset end = trees.end
  trees_at offset (s ▹ rest) = tree_before offset s (trees_at (offset + length (spelled_text s)) rest)

-- ---- where the text is cut

abbrev mutual
  -- with this text behind it, each piece is the one that a scanner finds where it stands
  pub IsCutThere : Spelled → List ℕ → Type 0
  IsCutThere (blank cs) behind = piece_at (cs ++ behind) ≡ Some (Space, behind)
  IsCutThere (token kind cs) behind = piece_at (cs ++ behind) ≡ Some (Token kind, behind)
  IsCutThere (group b inner) behind = AreCutThere inner (closing b ∷ behind)

  pub AreCutThere : Spelling → List ℕ → Type 0
  AreCutThere end behind = Unit {0}
  AreCutThere (s ▹ rest) behind = IsCutThere s (text_of rest ++ behind) × AreCutThere rest behind

-- The law: where each character is one byte, and each piece is found where it stands, the text is cut into the trees.
abbrev pub SpelledAreCut : Type 0
SpelledAreCut = (spelling : Spelling) → IsAscii (text_of spelling) → AreCutThere spelling [] → IsCut (text_of spelling) (trees_at 0 spelling)

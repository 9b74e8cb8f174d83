-- The pieces at the front of what is left of a source.
use Rattle.std.specs.Prelude.{◌≡◌, ℕ, ◌+◌, ◌-◌, ◌≤◌, ◌<◌, ◌⊎◌, List, [], ◌∷◌, ◌++◌, length, chars}
use Rattle.std.specs.Str.{IsUtf8}
use Rattle.lexing.specs.declared.piece.Piece.{Piece}
use Rattle.lexing.specs.declared.piece.PieceKind.{PieceKind}
use Rattle.lexing.specs.declared.piece.PieceKind.TheVariants.{Open, Close}
use Rattle.lexing.specs.declared.scan.Front.{Front}
use Rattle.lexing.specs.Pieces.{Cuts}
use Rattle.lexing.specs.RawStrings.{NoneCloses}

-- how many brackets are open after a piece, whichever they are
abbrev pub open_after_piece : PieceKind → ℕ → ℕ
open_after_piece (Open b) open_before = open_before + 1
open_after_piece (Close b) open_before = open_before - 1
open_after_piece _ open_before = open_before

-- and after pieces
abbrev pub count_open : ℕ → List Piece → ℕ
count_open open_before [] = open_before
count_open open_before (p ∷ ps) = count_open (open_after_piece p.kind open_before) ps

-- What is left of the source is the text: the pieces are those at its front, and the rest follows them.
pub record IsFront (source text : List ℕ) (front : Front) : Type 0 where
  pub joins : (ps : List Piece) → Cuts ps (length source - length front.rest.now) (chars front.rest.now) → Cuts (front.pieces ++ ps) (length source - length text) (chars text)
  pub leaves : (all : List Piece) → Cuts all (length source - length text) (chars text) → (ps : List Piece) × Cuts ps (length source - length front.rest.now) (chars front.rest.now)
  pub closed : (front.rest.now ≡ []) ⊎ (count_open 0 front.pieces ≡ 0)
  pub known : NoneCloses front.unclosed (chars front.rest.now)
  pub shorter : length front.rest.now ≤ length text
  pub moves : 0 < length text → length front.rest.now < length text
  pub is_text : IsUtf8 front.rest.now

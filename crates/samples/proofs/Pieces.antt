-- The pieces of a spelling, and how each is found.
use Rattle.std.proofs.Common.{◌≡◌, ℕ, suc, ◌+◌, List, [], ◌∷◌, ◌++◌, length, refl, ap, sym, subst, Some}
use Rattle.std.proofs.lemmas.List.{append_cancel_right}
use Rattle.std.proofs.lemmas.Str.{encodes-IsAscii}
use Rattle.std.proofs.lemmas.Str.Ascii.{IsAscii-nil, IsAscii-cons}
use Rattle.std.specs.Str.{IsAscii}
use Rattle.unicode_ident.proofs.Computing.{unicode_ident}
use Rattle.tokens.specs.declared.token.Bracket.{Bracket}
use Rattle.tokens.specs.declared.token.Bracket.TheVariants.{Round, Square, Curly}
use Rattle.lexing.specs.declared.piece.Piece.{Piece}
use Rattle.lexing.specs.declared.piece.PieceKind.{PieceKind}
use Rattle.lexing.specs.declared.piece.PieceKind.TheVariants.{Space, Token, Open, Close}
use Rattle.lexing.specs.Pieces.{opening, closing, IsLongest, Cuts}
use Rattle.lexing.specs.Scanning.{class_of, piece_at}
use Rattle.lexing.proofs.Laws.{finds_longest}
use Rattle.samples.specs.Spelling.{Spelled, Spelling, blank, token, group, end, ◌▹◌, spelled_text, text_of, span_from}

-- ---- the pieces

-- the piece of a kind, from an offset on, of so many bytes
abbrev pub piece_from : PieceKind → ℕ → ℕ → Piece
piece_from kind offset many = record { kind = kind; span = span_from offset many }

abbrev mutual
  -- the pieces of what is spelled at an offset, and others behind them
  pub pieces_before : ℕ → Spelled → List Piece → List Piece
  pieces_before offset (blank cs) rest = piece_from Space offset (length cs) ∷ rest
  pieces_before offset (token kind cs) rest = piece_from (Token kind) offset (length cs) ∷ rest
  pieces_before offset (group b inner) rest =
      piece_from (Open b) offset 1 ∷ pieces_at (offset + 1) inner (piece_from (Close b) (offset + 1 + length (text_of inner)) 1 ∷ rest)

  pub pieces_at : ℕ → Spelling → List Piece → List Piece
  pieces_at offset end rest = rest
  pieces_at offset (s ▹ more) rest = pieces_before offset s (pieces_at (offset + length (spelled_text s)) more rest)

-- ---- characters of one byte

-- two texts of them
pub ascii_front : (xs ys : List ℕ) → IsAscii (xs ++ ys) → IsAscii xs
ascii_front [] ys h = IsAscii-nil
ascii_front (x ∷ xs) ys h = IsAscii-cons x xs (h 0) (ascii_front xs ys (λ i. h (suc i)))

pub ascii_rest : (xs ys : List ℕ) → IsAscii (xs ++ ys) → IsAscii ys
ascii_rest [] ys h = h
ascii_rest (x ∷ xs) ys h = ascii_rest xs ys (λ i. h (suc i))

-- ---- what is found

-- a bracket is found wherever it stands
pub opening_found : (b : Bracket) (behind : List ℕ) → piece_at (opening b ∷ behind) ≡ Some (Open b, behind)
unfolding class_of unicode_ident
opening_found Round behind = refl
opening_found Square behind = refl
opening_found Curly behind = refl

pub closing_found : (b : Bracket) (behind : List ℕ) → piece_at (closing b ∷ behind) ≡ Some (Close b, behind)
unfolding class_of unicode_ident
closing_found Round behind = refl
closing_found Square behind = refl
closing_found Curly behind = refl

-- a piece that is found, before those of what follows it
pub found_before : (kind : PieceKind) (cs behind : List ℕ) (offset : ℕ) (rest : List Piece) → IsAscii cs → piece_at (cs ++ behind) ≡ Some (kind, behind)
    → Cuts rest (offset + length cs) behind → Cuts (piece_from kind offset (length cs) ∷ rest) offset (cs ++ behind)
found_before kind cs behind offset rest h e cuts =
    let found = finds_longest (cs ++ behind) kind behind e in
    let front : found.0 ≡ cs = append_cancel_right found.0 cs behind (sym found.1) in
    (cs, behind, refl, subst (λ v. IsLongest kind v behind) front found.2, refl, ap (λ v. offset + length v) (sym (encodes-IsAscii cs h)), cuts)

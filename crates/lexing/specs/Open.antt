-- The brackets that stand open behind pieces.
use Rattle.std.specs.Prelude.{◌≡◌, ℕ, List, [], ◌∷◌, chars, Bool, true, false, cond, Option, Some, None}
use Rattle.std.specs.Option.{option_map_or}
use Rattle.texts.specs.declared.span.Span.{Span}
use Rattle.tokens.specs.declared.token.Bracket.{Bracket}
use Rattle.tokens.specs.declared.token.Bracket.TheVariants.{Round, Square, Curly}
use Rattle.lexing.specs.declared.brackets.OpenBracket.{OpenBracket}
use Rattle.lexing.specs.declared.piece.Piece.{Piece}
use Rattle.lexing.specs.declared.piece.PieceKind.{PieceKind}
use Rattle.lexing.specs.declared.piece.PieceKind.TheVariants.{Open, Close}
use Rattle.lexing.specs.Pieces.{Cuts}

abbrev pub same_bracket : Bracket → Bracket → Bool
same_bracket Round Round = true
same_bracket Square Square = true
same_bracket Curly Curly = true
same_bracket _ _ = false

-- the brackets that stand open after a piece, the innermost first; None at a closing bracket that closes nothing or the wrong bracket
abbrev pub after_piece : PieceKind → Span → List OpenBracket → Option (List OpenBracket)
after_piece (Open b) span unclosed = Some (record { bracket = b; span = span } ∷ unclosed)
after_piece (Close b) span [] = None
after_piece (Close b) span (innermost ∷ others) = cond (same_bracket innermost.bracket b) (Some others) None
after_piece _ span unclosed = Some unclosed

-- the brackets that stand open behind the pieces, the innermost first; reading ends at a closing bracket that closes nothing or the wrong bracket
abbrev pub open_behind : List OpenBracket → List Piece → List OpenBracket
open_behind unclosed [] = unclosed
open_behind unclosed (p ∷ ps) = option_map_or (λ after. open_behind after ps) (after_piece p.kind p.span unclosed) unclosed

-- the innermost of the open brackets, if one is open
abbrev pub IsInnermost : List OpenBracket → Option OpenBracket → Type 0
IsInnermost unclosed None = unclosed ≡ []
IsInnermost unclosed (Some innermost) = (others : List OpenBracket) × (unclosed ≡ innermost ∷ others)

-- the innermost bracket that stands open behind the source's pieces, if it has pieces and one is open
abbrev pub IsOpenBracket : List ℕ → Option OpenBracket → Type 0
IsOpenBracket source None = (pieces : List Piece) → Cuts pieces 0 (chars source) → IsInnermost (open_behind [] pieces) None
IsOpenBracket source (Some innermost) = (pieces : List Piece) × Cuts pieces 0 (chars source) × IsInnermost (open_behind [] pieces) (Some innermost)

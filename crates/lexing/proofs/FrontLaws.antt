-- How many brackets are open behind pieces.
use Rattle.std.proofs.Common.{◌≡◌, ℕ, ◌+◌, ◌-◌, ◌≤◌, arith, length, subst, sym, List, [], ◌∷◌, ◌++◌, refl}
use Rattle.lexing.specs.declared.piece.Piece.{Piece}
use Rattle.lexing.specs.declared.piece.PieceKind.{PieceKind}
use Rattle.lexing.specs.declared.piece.PieceKind.TheVariants.{Space, Comment, Token, Open, Close}
use Rattle.std.specs.Str.{chars}
use Rattle.lexing.specs.declared.piece.LexError.{LexError}
use Rattle.lexing.specs.declared.piece.LexError.TheVariants.{Memory, TooDeep, Stopped}
use Rattle.lexing.specs.Pieces.{Cuts}
use Rattle.lexing.specs.Scanning.{IsUncut, IsUncutFrom}
use Rattle.lexing.specs.Fronts.{open_after_piece, count_open}

pub count_pushed : (n : ℕ) (ps : List Piece) (p : Piece) → count_open n (ps ++ p ∷ []) ≡ open_after_piece p.kind (count_open n ps)
count_pushed n [] p = refl
count_pushed n (q ∷ qs) p = count_pushed (open_after_piece q.kind n) qs p

pub open_few : (k : PieceKind) (n : ℕ) → open_after_piece k n ≤ n + 1
open_few Space n = omega arith
open_few Comment n = omega arith
open_few (Token k) n = omega arith
open_few (Open b) n = omega arith
open_few (Close b) n = omega arith

-- where all of the source is left
pub uncut_from_start : (source : List ℕ) (e : LexError) → IsUncutFrom source source e → IsUncut source e
uncut_from_start source Memory h = tt
uncut_from_start source (TooDeep span) h = h
uncut_from_start source (Stopped span) h =
    let none : length source - length source ≡ 0 = omega arith in
    (h.0, λ all cut. h.1 all (subst (λ v. Cuts all v (chars source)) (sym none) cut))

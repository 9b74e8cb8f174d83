-- What stands open behind the pieces of trees and of a source.
use Rattle.std.proofs.Common.{◌≡◌, ◌∙◌, ℕ, List, [], ◌∷◌, refl, ap, subst, inl, inr, true, cond, Option, Some, None}
use Rattle.std.specs.Option.{option_map_or}
use Rattle.std.specs.Str.{chars}
use Rattle.tokens.specs.declared.token.Bracket.{Bracket}
use Rattle.tokens.specs.declared.token.Bracket.TheVariants.{Round, Square, Curly}
use Rattle.tokens.specs.Trees.{Trees}
use Rattle.lexing.specs.declared.brackets.OpenBracket.{OpenBracket}
use Rattle.lexing.specs.declared.piece.Piece.{Piece}
use Rattle.lexing.specs.declared.piece.PieceKind.{PieceKind}
use Rattle.lexing.specs.declared.piece.PieceKind.TheVariants.{Space, Comment, Token, Open, Close}
use Rattle.lexing.specs.Pieces.{Cuts}
use Rattle.lexing.specs.Nesting.{IsTrees, none, blank, lone, grouped}
use Rattle.lexing.specs.Cut.{IsCut}
use Rattle.lexing.specs.Open.{same_bracket, after_piece, open_behind, IsInnermost, IsOpenBracket}
use Rattle.lexing.proofs.CutLaws.{same_pieces}

same_bracket-self : (b : Bracket) → same_bracket b b ≡ true
same_bracket-self Round = refl
same_bracket-self Square = refl
same_bracket-self Curly = refl

-- reading goes on behind a piece of the kind
goes_on : (unclosed after : List OpenBracket) (p : Piece) (ps : List Piece) (k : PieceKind) → p.kind ≡ k → after_piece k p.span unclosed ≡ Some after → open_behind unclosed (p ∷ ps) ≡ open_behind after ps
goes_on unclosed after p ps k e f = ap (λ v. option_map_or (λ w. open_behind w ps) v unclosed) (ap (λ v. after_piece v p.span unclosed) e ∙ f)

-- behind trees the same brackets stand open as before them
behind_trees : (source : List ℕ) {ps rest : List Piece} {ts : Trees} → IsTrees source ps ts rest → (unclosed : List OpenBracket) → open_behind unclosed ps ≡ open_behind unclosed rest
behind_trees source none unclosed = refl
behind_trees source (blank {p = p} {ps = ps} (inl k) r) unclosed = goes_on unclosed unclosed p ps Space k refl ∙ behind_trees source r unclosed
behind_trees source (blank {p = p} {ps = ps} (inr k) r) unclosed = goes_on unclosed unclosed p ps Comment k refl ∙ behind_trees source r unclosed
behind_trees source (lone {p = p} {k = kind} {ps = ps} k r) unclosed = goes_on unclosed unclosed p ps (Token kind) k refl ∙ behind_trees source r unclosed
behind_trees source (grouped {p = p} {q = q} {b = b} {ps = ps} {mid = mid} k r l a z s) unclosed =
    let opened : OpenBracket = record { bracket = b; span = p.span } in
    goes_on unclosed (opened ∷ unclosed) p ps (Open b) k refl
    ∙ behind_trees source r (opened ∷ unclosed)
    ∙ goes_on (opened ∷ unclosed) unclosed q mid (Close b) l (ap (λ v. cond v (Some unclosed) None) (same_bracket-self b))
    ∙ behind_trees source s unclosed

-- what stands open behind the pieces that cut a source stands open in the source
pub open_in_source : (source : List ℕ) (pieces : List Piece) → Cuts pieces 0 (chars source) → (found : Option OpenBracket) → IsInnermost (open_behind [] pieces) found → IsOpenBracket source found
open_in_source source pieces cut None innermost = λ others h. subst (λ v. IsInnermost (open_behind [] v) None) (same_pieces pieces others 0 (chars source) cut h) innermost
open_in_source source pieces cut (Some o) innermost = (pieces, cut, innermost)

-- behind all trees of a source no bracket stands open
pub closed_source : (source : List ℕ) (trees : Trees) (o : OpenBracket) → IsCut source trees → IsOpenBracket source (Some o) → ⊥
closed_source source trees o cut found =
    let same = same_pieces cut.0 found.0 0 (chars source) cut.1 found.1 in
    let nothing : open_behind [] cut.0 ≡ [] = behind_trees source cut.2 [] in
    let something : open_behind [] cut.0 ≡ o ∷ found.2.0 = ap (open_behind []) same ∙ found.2.1 in
    cc

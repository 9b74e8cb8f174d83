-- Trees lie where the pieces lie that they are made of.
use Rattle.std.proofs.Common.{ℕ, List, sym, subst}
use Rattle.std.specs.Str.{IsCharBoundary}
use Rattle.tokens.specs.Trees.{Trees}
use Rattle.lexing.specs.declared.piece.Piece.{Piece}
use Rattle.lexing.specs.Nesting.{IsTrees, none, blank, lone, grouped}
use Rattle.lexing.specs.Reading.{LieIn}
use Rattle.lexing.specs.Lying.{AreIn, TreesLie}
use Rattle.lexing.proofs.NestLaws.{lie_after}
use Rattle.lexing.proofs.CutLaws.{pieces_lie}

lie : (source : List ℕ) {ps rest : List Piece} {ts : Trees} → IsTrees source ps ts rest → LieIn source ps → AreIn source ts
lie source none where_they = tt
lie source (blank k more) where_they = lie source more where_they.3
lie source (lone k more) where_they = ((where_they.0, where_they.1), lie source more where_they.3)
lie source (grouped o inner c starts ends more) where_they =
    let behind = lie_after source inner where_they.3 in
    ((subst (IsCharBoundary source) (sym starts) where_they.0, subst (IsCharBoundary source) (sym ends) behind.1, lie source inner where_they.3), lie source more behind.3)

pub trees_lie : TreesLie
trees_lie source trees utf8 (pieces, cut, nest) = lie source nest (pieces_lie source pieces utf8 cut)

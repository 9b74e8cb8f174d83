use Rattle.std.proofs.Common.{◌∷◌, subst}
use Rattle.std.proofs.lemmas.Result.{err_from_is_err_and}
use Rattle.tokens.specs.Trees.{trees_view}
use Rattle.lexing.specs.Pieces.{Cuts}
use Rattle.lexing.specs.Reading.{LieIn}
use Rattle.lexing.proofs.CutLaws.{pieces_lie}
use Rattle.lexing.proofs.NestLaws.{too_many, lie_after}
use Rattle.lexing.proofs.LexLaws.{trees_of_pieces, unread_from_unnested}
use Rattle.std.specs.Str.{chars}
use Rattle.lexing.proofs.lexer.token_trees.Goals as goal

pub trees_at-requires : goal.trees_at-requires
trees_at-requires c = rw c.as_slice.ensures (pieces_lie c.args.source.now c.in_ok-pieces.pieces c.utf8.source c.in_ok-pieces.ensures.found)

pub returns-in_err-trees-clause-refused : goal.returns-in_err-trees-clause-refused
returns-in_err-trees-clause-refused c =
    let source = c.args.source.now in
    let p = err_from_is_err_and c.from_residual-in_err-trees.result c.from_residual-in_err-trees.ensures.1 in
    let cut : Cuts c.as_slice.result.now 0 (chars source) = rw c.as_slice.ensures c.in_ok-pieces.ensures.found in
    rw (p.1, p.2) (unread_from_unnested source c.as_slice.result.now c.in_err-trees.field-0.0 cut c.in_err-trees.ensures.value)

pub returns-clause-refused : goal.returns-clause-refused
returns-clause-refused c =
    let source = c.args.source.now in
    let pieces = c.as_slice.result.now in
    let cut : Cuts pieces 0 (chars source) = rw c.as_slice.ensures c.in_ok-pieces.ensures.found in
    let read = c.in_ok-trees.ensures.value in
    let rest = c.in_ok-trees.rest.now in
    let left : LieIn source rest = lie_after source read.0 (pieces_lie source pieces c.utf8.source cut) in
    let here : LieIn source (c.in-Some.closing ∷ c.in-Some.field-0-1.now) = subst (LieIn source) c.in-Some.ensures left in
    (here.1.0, λ trees whole. too_many source pieces rest c.in-Some.field-0-1.now (trees_view c.in_ok-trees.trees) trees c.in-Some.closing read.0 read.1 c.in-Some.ensures (trees_of_pieces source pieces trees cut whole))

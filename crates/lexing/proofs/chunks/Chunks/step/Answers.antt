use Rattle.std.proofs.lemmas.Result.{err_from_is_err_and}
use Rattle.tokens.specs.Trees.{trees_view}
use Rattle.lexing.proofs.StepLaws.{front_is_in, unread, stops_here, goes_on}
use Rattle.lexing.proofs.chunks.Chunks.step.Goals as goal

pub trees_at-requires : goal.trees_at-requires
trees_at-requires c =
    let begun = c.requires.begun in
    rw c.as_slice-pieces.ensures (front_is_in c.args.self.now begun.0 begun.1 c.in-Ok.front c.in-Ok.ensures.found)

pub returns-in_err-trees-in-Ok-clause-refused : goal.returns-in_err-trees-in-Ok-clause-refused
returns-in_err-trees-in-Ok-clause-refused c =
    let begun = c.requires.begun in
    let p = err_from_is_err_and c.from_residual.result c.from_residual.ensures.1 in
    let why = rw c.as_slice-pieces.ensures at c.in_err-trees-in-Ok.ensures.value in
    rw (p.1, p.2) (unread c.args.self.now begun.0 begun.1 c.in-Ok.front c.in-Ok.ensures.found c.in_err-trees-in-Ok.field-0.0 why)

pub returns-in-Some-clause-refused : goal.returns-in-Some-clause-refused
returns-in-Some-clause-refused c =
    let begun = c.requires.begun in
    let read = rw c.as_slice-pieces.ensures at c.in_ok-trees-in-Ok.ensures.value in
    stops_here c.args.self.now begun.0 begun.1 c.in-Ok.front c.in-Ok.ensures.found (trees_view c.in_ok-trees-in-Ok.trees) c.in_ok-trees-in-Ok.closing.now c.in-Some.field-0-1.now c.in-Some.piece read.0 read.1
    c.in-Some.ensures

pub returns-clause-goes_on : goal.returns-clause-goes_on
returns-clause-goes_on c = λ trees r.
    let read = rw c.as_slice-pieces.ensures at c.in_ok-trees-in-Ok.ensures.value in
    goes_on c.args.self.now trees r c.in-Ok.front c.in-Ok.ensures.found (trees_view c.in_ok-trees-in-Ok.trees) c.in_ok-trees-in-Ok.closing.now read.0 c.in-None.ensures read.2

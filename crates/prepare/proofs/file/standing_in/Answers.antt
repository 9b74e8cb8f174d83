use Rattle.std.proofs.lemmas.Result.{err_from_is_err_and}
use Rattle.prepare.proofs.Answered.{passed_on, cut_fails}
use Rattle.prepare.proofs.Found.{is_found}
use Rattle.prepare.proofs.file.standing_in.Goals as goal

pub returns-in_err-reading-clause-refused : goal.returns-in_err-reading-clause-refused
returns-in_err-reading-clause-refused c =
    let p = err_from_is_err_and c.from_residual.result c.from_residual.ensures.1 in
    rw (p.1, p.2) (passed_on c.args.source.now c.in_err-reading.field-0.0 (cut_fails c.args.source.now c.in_err-reading.field-0.0 c.in_err-reading.ensures.refused))

pub returns-in_err-found-clause-refused : goal.returns-in_err-found-clause-refused
returns-in_err-found-clause-refused c =
    let p = err_from_is_err_and c.from_residual-in_err-found.result c.from_residual-in_err-found.ensures.1 in
    rw (p.1, p.2) (passed_on c.args.source.now c.in_err-found.field-0.0 (c.in_err-found.ensures.refused c.args.source.now c.in_ok-reading.ensures.begun))

pub returns-in_err-read_to_end-clause-refused : goal.returns-in_err-read_to_end-clause-refused
returns-in_err-read_to_end-clause-refused c =
    let p = err_from_is_err_and c.from_residual-in_err-read_to_end.result c.from_residual-in_err-read_to_end.ensures.1 in
    let found = c.in_ok-found.ensures.found c.args.source.now c.in_ok-reading.ensures.begun in
    rw (p.1, p.2) (passed_on c.args.source.now c.in_err-read_to_end.field-0.0 (c.in_err-read_to_end.ensures.refused c.args.source.now found.seen found.reads))

pub answer-requires : goal.answer-requires
answer-requires c =
    let found = c.in_ok-found.ensures.found c.args.source.now c.in_ok-reading.ensures.begun in
    is_found c.args.source.now c.standing_of.new.reading c.in_ok-found.found found (c.in_ok-read_to_end.ensures.ends c.args.source.now)

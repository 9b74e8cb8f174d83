use Rattle.std.proofs.lemmas.Result.{err_from_is_err_and}
use Rattle.file_runs.proofs.Taken.{all_taken, stopped}
use Rattle.file_runs.proofs.arguments.request_of.Goals as goal

pub returns-in_err-state : goal.returns-in_err-state
returns-in_err-state c =
    let p = err_from_is_err_and c.from_residual.result c.from_residual.ensures.1 in
    let stop = stopped _ _ _ _ _ _ c.in-len1-up.len_at_least c.first-item.is c.as_str.ensures.value c.words.invariant c.in_err-state.ensures in
    rw (p.1, p.2) stop

pub returns : goal.returns
returns c = rw (all_taken _ _ _ c.in_default.len_below c.words.invariant) c.at_end.ensures

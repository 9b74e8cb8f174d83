use Rattle.std.proofs.lemmas.Result.{err_from_is_err_and}
use Rattle.prepare.specs.Reading.{window_of}
use Rattle.prepare.proofs.reading.Reading.read_inner.Goals as goal

pub read_on-requires-clause-begun : goal.read_on-requires-clause-begun
read_on-requires-clause-begun c = (c.requires.begun.0, window_of c.inner.self, c.inner.invariant c.requires.begun.0 c.requires.begun.1)

pub returns-in_err-read_on-clause-refused : goal.returns-in_err-read_on-clause-refused
returns-in_err-read_on-clause-refused c = λ source h.
    let p = err_from_is_err_and c.from_residual.result c.from_residual.ensures.1 in
    rw (p.1, p.2) (c.in_err-read_on.ensures.refused source (window_of c.inner.self) (c.inner.invariant source h))

use Rattle.std.proofs.Common.{inl, inr}
use Rattle.std.proofs.lemmas.Result.{err_from_is_err_and}
use Rattle.gathering.proofs.reading.declared_in.Goals as goal

pub returns-in_err-declarations-clause-refused : goal.returns-in_err-declarations-clause-refused
returns-in_err-declarations-clause-refused c =
    let p = err_from_is_err_and c.from_residual.result c.from_residual.ensures.1 in
    rw (p.1, p.2) (elim c.in_err-declarations.ensures.refused [ inl memory ↦ inl memory | inr unread ↦ inr (inl unread) ])

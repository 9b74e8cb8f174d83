use Rattle.std.proofs.Common.{inl, inr}
use Rattle.reporting.proofs.Ended.{error_ending}
use Rattle.reporting.proofs.reading.rest_of_none.Goals as goal

pub returns-in-Err-clause-owed : goal.returns-in-Err-clause-owed
returns-in-Err-clause-owed g c = λ begun none.
    error_ending g.C.Command.program begun (_, none.asked) _ _ c.of_error.ensures
    (elim c.in-Err.ensures.refused [ inl memory ↦ inl memory | inr refuses ↦ inr (refuses begun none) ])

use Rattle.std.proofs.Common.{refl}
use Rattle.reporting.specs.Owed.{Owes}
use Rattle.reporting.proofs.Ended.{given_ending, given_report}
use Rattle.reporting.proofs.reading.end_of_bytes.Goals as goal

pub returns-in-Ok-clause-owed : goal.returns-in-Ok-clause-owed
unfolding Owes
returns-in-Ok-clause-owed g c = λ begun form is all. ((_, g.met.C.Command.gives _ begun _ is all, c.in-Ok.ensures.made), refl)

pub returns-in-Err-clause-owed : goal.returns-in-Err-clause-owed
returns-in-Err-clause-owed g c = λ begun form is all.
    given_ending g.C.Command.program begun _ (g.met.C.Command.gives _ begun _ is all) _ _ c.of_error.ensures c.in-Err.ensures.refused form

pub returns-in-Err-clause-of_given : goal.returns-in-Err-clause-of_given
returns-in-Err-clause-of_given g c = λ begun kind is all so.
    given_report g.C.Command.program begun _ (g.met.C.Command.gives _ begun _ is all) _ _ c.of_error.ensures c.in-Err.ensures.refused kind so

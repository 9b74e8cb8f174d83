use Rattle.std.proofs.Common.{refl, subst}
use Rattle.reporting.specs.Command.{IsRest}
use Rattle.reporting.specs.Owed.{Owes}
use Rattle.reporting.proofs.reading.end_of_rest.Goals as goal

pub returns-in-Answer-clause-owed : goal.returns-in-Answer-clause-owed
unfolding Owes
returns-in-Answer-clause-owed g c = λ begun form rest left.
    let answer = subst (IsRest g.C.Command.program g.C.Command.is_work begun) c.in-Answer.is rest in (answer.1, refl)

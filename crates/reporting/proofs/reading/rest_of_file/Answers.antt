use Rattle.std.proofs.Common.{inl, inr, refl}
use Rattle.reporting.specs.Beginning.{begun_with}
use Rattle.reporting.specs.Owed.{Owes}
use Rattle.reporting.proofs.Ended.{error_ending}
use Rattle.reporting.proofs.reading.rest_of_file.Goals as goal

pub returns-in-Err-Longer-clause-owed : goal.returns-in-Err-Longer-clause-owed
returns-in-Err-Longer-clause-owed g c = λ words left asked named.
    let long = c.in-Err-Longer.ensures.longer cc in
    let begun = begun_with g.F.Files words c.args.files.now left in
    error_ending g.C.Command.program begun (_, asked) _ _ c.of_error.ensures
    (elim c.longer_file.ensures [
      | inl memory ↦ inl memory
      | inr refuses ↦ inr (refuses begun long.0 (record { asked = asked; path = c.args.path.now; named = named; held = long.1 }) long.2)
    ])

pub returns-in-Err-Failed-clause-owed : goal.returns-in-Err-Failed-clause-owed
unfolding Owes
returns-in-Err-Failed-clause-owed g c = λ words left asked named. ((c.args.path.now, named), refl, refl)

pub returns-in-Err-Memory-clause-owed : goal.returns-in-Err-Memory-clause-owed
unfolding Owes
returns-in-Err-Memory-clause-owed g c = λ words left asked named. ((_, asked), refl, refl)

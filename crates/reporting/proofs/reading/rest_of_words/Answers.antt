use Rattle.std.proofs.Common.{refl}
use Rattle.reporting.specs.Owed.{Owes}
use Rattle.reporting.proofs.reading.rest_of_words.Goals as goal

pub returns-in_default-clause-owed : goal.returns-in_default-clause-owed
unfolding Owes
returns-in_default-clause-owed g c = λ left. (rw c.in_default.is at c.requires, refl, c.usage.ensures)

pub returns-in-Some-path-clause-no_file : goal.returns-in-Some-path-clause-no_file
returns-in-Some-path-clause-no_file g c = λ none.
    let asked = rw c.in-Some.is at c.requires in
    absurd (none c.in-Some-path.path.now ((c.in-Some-path.ensures c.args.words.now asked c.in-Some-path.path.now).1 refl))

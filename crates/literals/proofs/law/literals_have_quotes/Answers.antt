use Rattle.std.proofs.Common.{[], ◌∷◌}
use Rattle.literals.proofs.LiteralLaws.{literal_begins}
use Rattle.literals.proofs.law.literals_have_quotes.Goals as goal

pub returns-clause-quotes : goal.returns-clause-quotes
returns-clause-quotes c = λ d ds l. (literal_begins (d ∷ ds) l).0

pub returns-clause-first : goal.returns-clause-first
returns-clause-first c = λ d ds l. (literal_begins (d ∷ ds) l).1

pub returns-clause-some : goal.returns-clause-some
returns-clause-some c = λ l. literal_begins [] l

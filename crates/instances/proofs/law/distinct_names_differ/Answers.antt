use Rattle.instances.proofs.NameLaws.{names-differ, numbers-differ}
use Rattle.instances.proofs.law.distinct_names_differ.Goals as goal

pub returns-clause-names : goal.returns-clause-names
returns-clause-names c = names-differ

pub returns-clause-numbers : goal.returns-clause-numbers
returns-clause-numbers c = numbers-differ

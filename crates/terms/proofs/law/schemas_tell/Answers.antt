use Rattle.terms.proofs.Telling.{schemas-tell, tags-tell, numbers-tell, one-name}
use Rattle.terms.proofs.law.schemas_tell.Goals as goal

pub returns-clause-told : goal.returns-clause-told
returns-clause-told c = schemas-tell

pub returns-clause-tags : goal.returns-clause-tags
returns-clause-tags c = tags-tell

pub returns-clause-numbers : goal.returns-clause-numbers
returns-clause-numbers c = numbers-tell

pub returns-clause-names : goal.returns-clause-names
returns-clause-names c = one-name c.variants_are_told.ensures.one

use Rattle.std.proofs.Common.{arith}
use Rattle.std.proofs.lemmas.Grind.{common_steps}
use Rattle.attributes.specs.AttributeReading.{attribute_at}
use Rattle.attributes.proofs.read.attribute_at.Goals as goal

pub returns-in_err-group-in-Sign-Hash-default-clause-value : goal.returns-in_err-group-in-Sign-Hash-default-clause-value
unfolding attribute_at
returns-in_err-group-in-Sign-Hash-default-clause-value c = grind (arith, common_steps)

pub returns-in_err-attribute-in-Sign-Hash-default-clause-value : goal.returns-in_err-attribute-in-Sign-Hash-default-clause-value
unfolding attribute_at
returns-in_err-attribute-in-Sign-Hash-default-clause-value c = grind (arith, common_steps)

pub returns-in-empty-clause-value : goal.returns-in-empty-clause-value
unfolding attribute_at
returns-in-empty-clause-value c = grind (arith, common_steps)

pub returns-in_ok-doc_attribute-in-Some-clause-value : goal.returns-in_ok-doc_attribute-in-Some-clause-value
unfolding attribute_at
returns-in_ok-doc_attribute-in-Some-clause-value c = grind (arith, common_steps)

pub returns-in-None-clause-value : goal.returns-in-None-clause-value
unfolding attribute_at
returns-in-None-clause-value c = grind (arith, common_steps)

pub returns-in_ok-attribute-in-Sign-Hash-default-clause-value : goal.returns-in_ok-attribute-in-Sign-Hash-default-clause-value
unfolding attribute_at
returns-in_ok-attribute-in-Sign-Hash-default-clause-value c = grind (arith, common_steps)

use Rattle.serde_rules.proofs.ContainerLaws.{rules_are_not_refused, decided, refusals_are_one}
use Rattle.serde_rules.proofs.law.container_rules_are_one.Goals as goal

pub returns-clause-allowed : goal.returns-clause-allowed
returns-clause-allowed c = rules_are_not_refused

pub returns-clause-decided : goal.returns-clause-decided
returns-clause-decided c = decided

pub returns-clause-one_refusal : goal.returns-clause-one_refusal
returns-clause-one_refusal c = refusals_are_one

use Rattle.derive_decl.proofs.Exact.{forms_exact, units_exact, variants_exact, plain_exact, mixed_exact, bodies_exact, derived_exact, items_exact, declarations_exact}
use Rattle.derive_decl.proofs.law.resolution_is_exact.Goals as goal

pub returns-clause-forms : goal.returns-clause-forms
returns-clause-forms c = forms_exact c.resolution_is_exact.ensures c.names_repeat_or_not.ensures.once c.names_repeat_or_not.ensures.decided c.container_rules_are_one.ensures.allowed c.container_rules_are_one.ensures.decided

pub returns-clause-units : goal.returns-clause-units
returns-clause-units c = units_exact c.resolution_is_exact.ensures c.names_repeat_or_not.ensures.once c.names_repeat_or_not.ensures.decided c.container_rules_are_one.ensures.allowed c.container_rules_are_one.ensures.decided

pub returns-clause-variants : goal.returns-clause-variants
returns-clause-variants c = variants_exact c.resolution_is_exact.ensures c.names_repeat_or_not.ensures.once c.names_repeat_or_not.ensures.decided c.container_rules_are_one.ensures.allowed c.container_rules_are_one.ensures.decided

pub returns-clause-plain : goal.returns-clause-plain
returns-clause-plain c = plain_exact c.resolution_is_exact.ensures c.names_repeat_or_not.ensures.once c.names_repeat_or_not.ensures.decided c.container_rules_are_one.ensures.allowed c.container_rules_are_one.ensures.decided

pub returns-clause-mixed : goal.returns-clause-mixed
returns-clause-mixed c = mixed_exact c.resolution_is_exact.ensures c.names_repeat_or_not.ensures.once c.names_repeat_or_not.ensures.decided c.container_rules_are_one.ensures.allowed c.container_rules_are_one.ensures.decided

pub returns-clause-bodies : goal.returns-clause-bodies
returns-clause-bodies c = bodies_exact c.resolution_is_exact.ensures c.names_repeat_or_not.ensures.once c.names_repeat_or_not.ensures.decided c.container_rules_are_one.ensures.allowed c.container_rules_are_one.ensures.decided

pub returns-clause-derived : goal.returns-clause-derived
returns-clause-derived c = derived_exact c.resolution_is_exact.ensures c.names_repeat_or_not.ensures.once c.names_repeat_or_not.ensures.decided c.container_rules_are_one.ensures.allowed c.container_rules_are_one.ensures.decided

pub returns-clause-items : goal.returns-clause-items
returns-clause-items c = items_exact c.resolution_is_exact.ensures c.names_repeat_or_not.ensures.once c.names_repeat_or_not.ensures.decided c.container_rules_are_one.ensures.allowed c.container_rules_are_one.ensures.decided

pub returns-clause-declarations : goal.returns-clause-declarations
returns-clause-declarations c = declarations_exact c.resolution_is_exact.ensures c.names_repeat_or_not.ensures.once c.names_repeat_or_not.ensures.decided c.container_rules_are_one.ensures.allowed c.container_rules_are_one.ensures.decided

use Rattle.derive_decl.proofs.Apart.{forms_apart, units_apart, variants_apart, plain_apart, mixed_apart, bodies_apart, items_apart, declarations_apart}
use Rattle.derive_decl.proofs.law.resolved_are_apart.Goals as goal

pub returns-clause-forms : goal.returns-clause-forms
returns-clause-forms c = forms_apart

pub returns-clause-units : goal.returns-clause-units
returns-clause-units c = units_apart

pub returns-clause-variants : goal.returns-clause-variants
returns-clause-variants c = variants_apart

pub returns-clause-plain : goal.returns-clause-plain
returns-clause-plain c = plain_apart

pub returns-clause-mixed : goal.returns-clause-mixed
returns-clause-mixed c = mixed_apart

pub returns-clause-bodies : goal.returns-clause-bodies
returns-clause-bodies c = bodies_apart

pub returns-clause-items : goal.returns-clause-items
returns-clause-items c = items_apart

pub returns-clause-declarations : goal.returns-clause-declarations
returns-clause-declarations c = declarations_apart

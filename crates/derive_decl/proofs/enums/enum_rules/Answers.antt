use Rattle.derive_decl.specs.Views.{items_of}
use Rattle.derive_decl.proofs.Rules.{rules_allowed}
use Rattle.derive_decl.proofs.enums.enum_rules.Goals as goal

pub returns-clause-allowed : goal.returns-clause-allowed
returns-clause-allowed c = rules_allowed (items_of c.args.root.now) c.in_ok-rules.rules c.in_ok-rules.ensures.read

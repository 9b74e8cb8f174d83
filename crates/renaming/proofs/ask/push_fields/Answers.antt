use Rattle.std.proofs.Common.{subst, map}
use Rattle.attributes.specs.Attributes.{attribute_view, serde_items}
use Rattle.syntax.specs.Items.{fields_view}
use Rattle.renaming.specs.Refusals.{AreRefusedFields}
use Rattle.renaming.proofs.ask.push_fields.Goals as goal

pub returns-in_ok-push_named-in-Named-clause-faultless : goal.returns-in_ok-push_named-in-Named-clause-faultless
returns-in_ok-push_named-in-Named-clause-faultless c =
    λ e fault. c.in_ok-rules-in-Named.ensures.allowed e (subst (λ fs. AreRefusedFields (serde_items (map attribute_view c.args.attributes.now)) (fields_view fs) e) c.in-Named.is fault)

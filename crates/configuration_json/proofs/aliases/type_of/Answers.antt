use Rattle.std.proofs.Common.{sym}
use Rattle.serde_json.specs.View.{view}
use Rattle.configuration_json.proofs.RowLaws.{is_text, types_said, types_unsaid}
use Rattle.configuration_json.proofs.aliases.type_of.Goals as goal

pub returns-in-Some-clause-said : goal.returns-in-Some-clause-said
returns-in-Some-clause-said c = types_said (view c.args.value.now) c.in-Some.text.now c.aliased_type.result (is_text (view c.args.value.now) c.in-Some.text.now (sym c.in-Some.ensures)) c.aliased_type.ensures.said

pub returns-in-Some-clause-refused : goal.returns-in-Some-clause-refused
returns-in-Some-clause-refused c = types_unsaid (view c.args.value.now) c.in-Some.text.now c.aliased_type.result (is_text (view c.args.value.now) c.in-Some.text.now (sym c.in-Some.ensures)) c.aliased_type.ensures.refused

use Rattle.std.proofs.Common.{◌↔◌}
use Rattle.serde_json.specs.View.{members_view}
use Rattle.configuration_json.specs.Form.{AreTexts}
use Rattle.configuration_json.proofs.members.are_texts.Given as goal

-- the members that are left are texts exactly if all are
abbrev pub invariant-loop-value : goal.invariant-loop-value
invariant-loop-value l = AreTexts (members_view l.value-iterator) ↔ AreTexts (members_view l.members.entries)

use Rattle.std.proofs.Common.{◌≡◌, ◌++◌, map, take}
use Rattle.std.specs.List.{flat_map}
use Rattle.warnings.specs.Rules.{warning_view, rule_view, warned_by}
use Rattle.warnings.proofs.items.push_by_each.Given as goal

abbrev pub invariant-loop-rule : goal.invariant-loop-rule
invariant-loop-rule l = map warning_view l.warnings ≡ map warning_view l.initial.warnings ++ flat_map (warned_by l.place l.item) (map rule_view (take l.rule-index l.rules))

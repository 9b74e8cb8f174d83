use Rattle.serde_rules.proofs.ContainerLaws.{rules_more}
use Rattle.serde_rules.proofs.container.read_item.Goals as goal

pub returns-clause-read : goal.returns-clause-read
returns-clause-read c = λ before is.
    rules_more c.args.so_far _ before c.args.item.now (record { rename_all = c.in_ok-later_rule.ensures.rule; enum_repr = c.in_ok-with_item.ensures.next; default = c.is_told.ensures; deny_unknown_fields = c.is_told-2.ensures }) is

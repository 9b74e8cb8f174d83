use Rattle.std.proofs.Common.{◌∙◌, ◌++◌, take, ap}
use Rattle.serde_rules.specs.Value.{value_rules}
use Rattle.serde_rules.proofs.ItemLaws.{one_more, no_more}
use Rattle.serde_rules.proofs.value.read_items.Goals as goal

pub loop-item-preserved : goal.loop-item-preserved
loop-item-preserved c = λ before is.
    c.in_ok-rules.ensures (before ++ take c.loop-item.item-index c.args.items.now) (c.loop-item.invariant before is)
    ∙ ap value_rules (one_more before c.args.items.now c.loop-item.item-index c.item-item.result c.loop-item-test.true c.item-item.is)

pub returns : goal.returns
returns c = λ before is. c.loop-item.invariant before is ∙ ap value_rules (no_more before c.args.items.now c.loop-item.item-index c.loop-item-test.false)

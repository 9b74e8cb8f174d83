use Rattle.std.proofs.Common.{List, ◌++◌, take, subst}
use Rattle.std.proofs.lemmas.Result.{err_from_is_err_and}
use Rattle.attributes.specs.declared.serde_item.SerdeItem.{SerdeItem}
use Rattle.serde_rules.specs.Container.{AreContainerRules}
use Rattle.serde_rules.proofs.ItemLaws.{one_more, no_more}
use Rattle.serde_rules.proofs.ContainerLaws.{refuses}
use Rattle.serde_rules.proofs.container.read_items.Goals as goal

pub returns-in_err-rules-clause-refused : goal.returns-in_err-rules-clause-refused
returns-in_err-rules-clause-refused c =
    let p = err_from_is_err_and c.from_residual.result c.from_residual.ensures.1 in
    rw (p.1, p.2) (λ before is. refuses before c.args.items.now c.loop-item.item-index c.item-item.result c.loop-item.rules c.in_err-rules.field-0.0 c.loop-item-test.true c.item-item.is
    (c.loop-item.invariant before is) c.in_err-rules.ensures.refused)

pub loop-item-preserved : goal.loop-item-preserved
loop-item-preserved c = λ before is.
    subst (λ (items : List SerdeItem). AreContainerRules items c.in_ok-rules.rules) (one_more before c.args.items.now c.loop-item.item-index c.item-item.result c.loop-item-test.true c.item-item.is)
    (c.in_ok-rules.ensures.read (before ++ take c.loop-item.item-index c.args.items.now) (c.loop-item.invariant before is))

pub returns-clause-read : goal.returns-clause-read
returns-clause-read c = λ before is.
    subst (λ (items : List SerdeItem). AreContainerRules items c.loop-item.rules) (no_more before c.args.items.now c.loop-item.item-index c.loop-item-test.false) (c.loop-item.invariant before is)

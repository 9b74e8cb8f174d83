use Rattle.serde_rules.proofs.ValueLaws.{value_next}
use Rattle.serde_rules.proofs.value.read_item.Goals as goal

pub returns : goal.returns
returns c = λ before is.
    value_next c.args.so_far before c.args.item.now _ _ _ _ _ _ c.is_skipped.ensures c.in_ok-later_text.ensures c.is_told.ensures c.is_told-2.ensures c.is_told-3.ensures
    c.is_double_option.ensures is

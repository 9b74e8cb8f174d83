use Rattle.std.proofs.Common.{◌<◌, ◌≤◌, ◌-◌, ◌∙◌, length, ap, sym, arith}
use Rattle.open_types.specs.Open.{Open, open_step, open_view}
use Rattle.open_types.specs.declared.open_type.OpenType.{fold-roll-OpenType}
use Rattle.open_types.specs.declared.open_type.OpenType.TheVariants.{rolls-Param}
use Rattle.open_types.proofs.OpenLists.{argument_at-views, argument_at-past}
use Rattle.open_types.proofs.closed_type.argument.Goals as goal

pub returns-then-place-arguments-clause-value : goal.returns-then-place-arguments-clause-value
returns-then-place-arguments-clause-value c =
    let lt : c.args.place < length c.args.arguments.now = grind arith in
    rw (argument_at-views c.args.arguments.now c.args.place c.index-arguments-place.result lt, ← c.index-arguments-place.is, ← c.as_open.ensures.same) c.copy.ensures

pub returns-else-place-arguments-clause-value : goal.returns-else-place-arguments-clause-value
returns-else-place-arguments-clause-value c =
    let past : length c.args.arguments.now ≤ c.args.place = grind arith in
    ap open_view (sym (rolls-Param (c.args.place - length c.args.arguments.now)))
    ∙ fold-roll-OpenType Open open_step _
    ∙ sym (argument_at-past c.args.arguments.now c.args.place past)

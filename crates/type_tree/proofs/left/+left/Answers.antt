use Rattle.std.proofs.Common.{ap, sym, ◌∙◌}
use Rattle.type_tree.specs.Aliases.{first_alias}
use Rattle.type_tree.proofs.AliasNames.{path_names, type_found, type_passed, argument_found, type_is_passed, lifetime_is_passed, constant_is_passed}
use Rattle.type_tree.proofs.left.+left.Goals as goal
use Rattle.type_tree.proofs.left.+left.Goals.{left_in_arguments-in-Ty+in_default, left_in_arguments-in-Lifetime, left_in_arguments-in-Constant}

pub left_in_path-returns-in-len1-up : goal.left_in_path-returns-in-len1-up
left_in_path-returns-in-len1-up t c =
    let aliases = c.args.config.now.aliases in
    c.left_in_segment.ensures
    ∙ sym (ap (first_alias aliases) (path_names aliases c.args.path.now c.as_slice.result.now c.segment-item.result c.as_slice.ensures c.in-len1-up.len_at_least c.segment-item.is))

pub left_in_arguments-returns-in-Some : goal.left_in_arguments-returns-in-Some
left_in_arguments-returns-in-Some t c =
    argument_found c.args.config.now.aliases c.args.arguments.now c.loop-argument.argument-index c.argument-item.result c.loop-argument-test.true c.argument-item.is c.in-Ty.ty _ c.in-Ty.is c.in-Some.ensures
    ∙ c.loop-argument.invariant

pub left_in_arguments-loop-argument-preserved : goal.left_in_arguments-loop-argument-preserved
left_in_arguments-loop-argument-preserved t c =
    let aliases = c.args.config.now.aliases in
    elim c.match-argument.branch [
      | left_in_arguments-in-Ty+in_default w ↦
          type_is_passed aliases c.args.arguments.now c.loop-argument.argument-index c.argument-item.result c.loop-argument-test.true c.argument-item.is w.in-Ty.ty w.in-Ty.is w.in_default.ensures ∙ c.loop-argument.invariant
      | left_in_arguments-in-Lifetime w ↦
          lifetime_is_passed aliases c.args.arguments.now c.loop-argument.argument-index c.argument-item.result c.loop-argument-test.true c.argument-item.is _ w.in-Lifetime.is ∙ c.loop-argument.invariant
      | left_in_arguments-in-Constant w ↦
          constant_is_passed aliases c.args.arguments.now c.loop-argument.argument-index c.argument-item.result c.loop-argument-test.true c.argument-item.is _ w.in-Constant.is ∙ c.loop-argument.invariant
    ]

pub left_in_types-returns-in-Some : goal.left_in_types-returns-in-Some
left_in_types-returns-in-Some t c =
    type_found c.args.config.now.aliases c.args.types.now c.loop-ty.ty-index c.ty-item.result c.loop-ty-test.true c.ty-item.is _ c.in-Some.ensures
    ∙ c.loop-ty.invariant

pub left_in_types-loop-ty-preserved : goal.left_in_types-loop-ty-preserved
left_in_types-loop-ty-preserved t c =
    type_passed c.args.config.now.aliases c.args.types.now c.loop-ty.ty-index c.ty-item.result c.loop-ty-test.true c.ty-item.is c.in_default.ensures
    ∙ c.loop-ty.invariant

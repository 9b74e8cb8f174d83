use Rattle.std.proofs.Common.{◌≡◌, ◌+◌, ◌++◌, ◌<◌, length, map, drop, [], ap, sym, ◌∙◌, arith, append-nil}
use Rattle.std.proofs.lemmas.Grind.{common_steps}
use Rattle.std.specs.Option.{option_to_list}
use Rattle.written_types.specs.Written.{arguments_view}
use Rattle.syntax.specs.Items.{parameter_view}
use Rattle.type_tree.specs.PathGenerics.{argument_parameters}
use Rattle.type_tree.proofs.PathGenerics.{parameters_push}
use Rattle.type_tree.proofs.path_generics.argument_parameters.Goals as goal
use Rattle.type_tree.proofs.path_generics.argument_parameters.Goals.{in-Some+in_ok-push, in_default}

pub loop-argument-preserved : goal.loop-argument-preserved
loop-argument-preserved c =
    let lt : c.loop-argument.argument-index < length c.args.arguments.now = omega arith in
    let after : c.match-branch-2.params ≡ c.loop-argument.params ++ option_to_list c.in_ok-param.field-0 =
    elim c.match-branch-2.branch [
      | in-Some+in_ok-push w ↦
          w.params-is ∙ w.in_ok-push.ensures.ok ∙ ap (λ o. c.loop-argument.params ++ option_to_list o) (sym w.in-Some.is)
      | in_default w ↦
          w.params-is ∙ sym (append-nil c.loop-argument.params) ∙ ap (λ o. c.loop-argument.params ++ option_to_list o) (sym w.in_default.is)
    ] in
    ap (λ ps. map parameter_view ps ++ argument_parameters (arguments_view (drop (c.loop-argument.argument-index + 1) c.args.arguments.now))) after
    ∙ parameters_push c.loop-argument.params c.in_ok-param.field-0 c.args.arguments.now c.loop-argument.argument-index c.argument-item.result _ lt c.argument-item.is c.in_ok-param.ensures c.loop-argument.invariant

pub returns : goal.returns
returns c =
    let all : drop c.loop-argument.argument-index c.args.arguments.now ≡ [] = grind (arith, common_steps) in
    sym (append-nil _) ∙ ap (λ xs. map parameter_view c.loop-argument.params ++ argument_parameters (arguments_view xs)) (sym all) ∙ c.loop-argument.invariant

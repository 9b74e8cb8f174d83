use Rattle.std.proofs.Common.{◌≡◌, ◌++◌, subst}
use Rattle.std.proofs.lemmas.Result.{on_ok_weaker}
use Rattle.written_types.specs.Written.{arguments_view}
use Rattle.configuration.specs.Aliases.{arguments_last_names}
use Rattle.configuration.proofs.TypeLaws.{types_turn, type_turn, lifetime_turn, constant_turn, applied_turn, plain_turn, path_added}
use Rattle.configuration.proofs.names.+names.Goals as goal
use Rattle.configuration.proofs.names.+names.Goals.{push_in_arguments-in-Ty+in_ok-push_names-in-Ty, push_in_arguments-in-Lifetime, push_in_arguments-in-Constant, push_in_segments-in-None, push_in_segments-in-Some+in_ok-push_in_arguments-in-Some}

pub push_in_types-loop-ty-preserved : goal.push_in_types-loop-ty-preserved
push_in_types-loop-ty-preserved t c =
    types_turn c.loop-ty.names c.push_names.new.names _ c.args.types.now c.loop-ty.ty-index c.ty-item.result c.loop-ty-test.true c.ty-item.is c.loop-ty.invariant c.in_ok-push_names.ensures

pub push_in_arguments-loop-argument-preserved : goal.push_in_arguments-loop-argument-preserved
push_in_arguments-loop-argument-preserved t c =
    elim c.match-argument.branch [
      | push_in_arguments-in-Ty+in_ok-push_names-in-Ty w ↦ rw w.names-is
          (type_turn c.loop-argument.names w.push_names.new.names _ c.args.arguments.now c.loop-argument.argument-index c.argument-item.result w.in-Ty.ty c.loop-argument-test.true c.argument-item.is w.in-Ty.is c.loop-argument.invariant w.in_ok-push_names-in-Ty.ensures)
      | push_in_arguments-in-Lifetime w ↦ rw w.names-is
          (lifetime_turn c.loop-argument.names _ c.args.arguments.now c.loop-argument.argument-index c.argument-item.result _ c.loop-argument-test.true c.argument-item.is w.in-Lifetime.is c.loop-argument.invariant)
      | push_in_arguments-in-Constant w ↦ rw w.names-is
          (constant_turn c.loop-argument.names _ c.args.arguments.now c.loop-argument.argument-index c.argument-item.result _ c.loop-argument-test.true c.argument-item.is w.in-Constant.is c.loop-argument.invariant)
    ]

pub push_in_segments-loop-segment-preserved : goal.push_in_segments-loop-segment-preserved
push_in_segments-loop-segment-preserved t c =
    elim c.match-segment.branch [
      | push_in_segments-in-None w ↦ rw w.names-is
          (plain_turn c.loop-segment.names _ c.args.segments.now c.loop-segment.segment-index c.segment-item.result c.loop-segment-test.true c.segment-item.is w.in-None.is c.loop-segment.invariant)
      | push_in_segments-in-Some+in_ok-push_in_arguments-in-Some w ↦ rw w.names-is
          (applied_turn c.loop-segment.names w.push_in_arguments.new.names _ c.args.segments.now c.loop-segment.segment-index c.segment-item.result _ c.loop-segment-test.true c.segment-item.is w.in-Some.is c.loop-segment.invariant
          (subst (λ xs. w.push_in_arguments.new.names ≡ c.loop-segment.names ++ arguments_last_names (arguments_view xs)) w.as_slice.ensures w.in_ok-push_in_arguments-in-Some.ensures))
    ]

pub push_in_path-returns : goal.push_in_path-returns
push_in_path-returns t c =
    on_ok_weaker c.push_in_segments.result
    (λ w. path_added c.args.path.now c.as_slice-segments.result.now c.args.names.now c.push_last.new.names c.push_in_segments.new.names c.as_slice-segments.ensures c.in_ok-push_last.ensures w)
    c.push_in_segments.ensures

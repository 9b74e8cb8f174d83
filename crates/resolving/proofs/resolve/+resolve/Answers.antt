use Rattle.std.proofs.Common.{◌≡◌, ◌⊎◌, inl, inr, sym, subst, IfOk, IfErr, Some, ◌∙◌}
use Rattle.std.proofs.lemmas.Result.{err_from_is_err_and}
use Rattle.diag.specs.declared.error.DeriveError.{DeriveError}
use Rattle.open_types.specs.Open.{open_view}
use Rattle.resolving.specs.Known.{known}
use Rattle.resolving.specs.Reading.{IsAtFault, AreAtFault}
use Rattle.resolving.proofs.Counted.{types_turn, types_end, type_turn, lifetime_turn, constant_turn, arguments_end, in_types, in_arguments, path_type-at, path_names-at, skipped_turn}
use Rattle.resolving.proofs.resolve.+resolve.Goals as goal
use Rattle.resolving.proofs.resolve.+resolve.Goals.{resolve_arguments-in-Ty+then-not-is_constant+in_ok-resolve_whole-in-Ty+in_ok-push-in-Ty, resolve_arguments-in-Ty+else-not-is_constant, resolve_arguments-in-Lifetime, resolve_arguments-in-Constant}

pub resolve_arguments-returns-in_err-resolve_whole-in-Ty-clause-refused : goal.resolve_arguments-returns-in_err-resolve_whole-in-Ty-clause-refused
resolve_arguments-returns-in_err-resolve_whole-in-Ty-clause-refused t c =
    let p = err_from_is_err_and c.from_residual.result c.from_residual.ensures.1 in
    rw (p.1, p.2)
    (elim c.in_err-resolve_whole-in-Ty.ensures.refused [
      | inl memory ↦ inl memory
      | inr fault ↦ inr (in_arguments (known c.args.names.now) (λ s. IsAtFault (known c.args.names.now) s c.in_err-resolve_whole-in-Ty.field-0.0) c.args.arguments.now c.loop-argument.argument-index c.argument-item.result c.in-Ty.ty c.loop-argument-test.true c.argument-item.is c.in-Ty.is (sym c.is_constant.ensures ∙ c.if-not-is_constant.true) fault)
    ])

pub resolve_arguments-loop-argument-preserved : goal.resolve_arguments-loop-argument-preserved
resolve_arguments-loop-argument-preserved t c =
    let p = known c.args.names.now in
    elim c.match-argument.branch [
      | resolve_arguments-in-Ty+then-not-is_constant+in_ok-resolve_whole-in-Ty+in_ok-push-in-Ty w ↦ rw (w.types-is, w.in_ok-push-in-Ty.ensures.ok)
          (type_turn p _ c.loop-argument.types c.args.arguments.now c.loop-argument.argument-index c.argument-item.result w.in-Ty.ty _ c.loop-argument-test.true c.argument-item.is w.in-Ty.is (sym w.is_constant.ensures ∙ w.if-not-is_constant.true) w.in_ok-resolve_whole-in-Ty.ensures.resolved c.loop-argument.invariant)
      | resolve_arguments-in-Ty+else-not-is_constant w ↦ rw w.types-is
          (skipped_turn p _ c.loop-argument.types c.args.arguments.now c.loop-argument.argument-index c.argument-item.result w.in-Ty.ty c.loop-argument-test.true c.argument-item.is w.in-Ty.is (sym w.is_constant.ensures ∙ w.if-not-is_constant.false) c.loop-argument.invariant)
      | resolve_arguments-in-Lifetime w ↦ rw w.types-is
          (lifetime_turn p _ c.loop-argument.types c.args.arguments.now c.loop-argument.argument-index c.argument-item.result _ c.loop-argument-test.true c.argument-item.is w.in-Lifetime.is c.loop-argument.invariant)
      | resolve_arguments-in-Constant w ↦ rw w.types-is
          (constant_turn p _ c.loop-argument.types c.args.arguments.now c.loop-argument.argument-index c.argument-item.result _ c.loop-argument-test.true c.argument-item.is w.in-Constant.is c.loop-argument.invariant)
    ]

pub resolve_arguments-returns-clause-resolved : goal.resolve_arguments-returns-clause-resolved
resolve_arguments-returns-clause-resolved t c = arguments_end (known c.args.names.now) _ c.loop-argument.types c.args.arguments.now c.loop-argument.argument-index c.loop-argument-test.false c.loop-argument.invariant

pub resolve_path-returns-in-len1-up-clause-resolved : goal.resolve_path-returns-in-len1-up-clause-resolved
resolve_path-returns-in-len1-up-clause-resolved t c =
    let same = path_type-at c.args.path.now c.as_slice.result.now c.segment-item.result c.as_slice.ensures c.in-len1-up.len_at_least c.segment-item.is (known c.args.names.now) in
    subst (λ o. IfOk c.resolve_segment.result (λ u. o ≡ Some (open_view u))) (sym same) c.resolve_segment.ensures.resolved

pub resolve_path-returns-in-len1-up-clause-refused : goal.resolve_path-returns-in-len1-up-clause-refused
resolve_path-returns-in-len1-up-clause-refused t c =
    let same = path_names-at c.args.path.now c.as_slice.result.now c.segment-item.result c.as_slice.ensures c.in-len1-up.len_at_least c.segment-item.is (known c.args.names.now) in
    subst (λ ns. IfErr c.resolve_segment.result (λ e. (e ≡ DeriveError.Memory) ⊎ AreAtFault (known c.args.names.now) ns e)) (sym same) c.resolve_segment.ensures.refused

pub resolve_types-returns-in_err-resolve_whole-clause-refused : goal.resolve_types-returns-in_err-resolve_whole-clause-refused
resolve_types-returns-in_err-resolve_whole-clause-refused t c =
    let p = err_from_is_err_and c.from_residual.result c.from_residual.ensures.1 in
    rw (p.1, p.2)
    (elim c.in_err-resolve_whole.ensures.refused [
      | inl memory ↦ inl memory
      | inr fault ↦ inr (in_types (known c.args.names.now) (λ s. IsAtFault (known c.args.names.now) s c.in_err-resolve_whole.field-0.0) c.args.types.now c.loop-ty.ty-index c.ty-item.result c.loop-ty-test.true c.ty-item.is fault)
    ])

pub resolve_types-loop-ty-preserved : goal.resolve_types-loop-ty-preserved
resolve_types-loop-ty-preserved t c =
    rw c.in_ok-push.ensures.ok
    (types_turn (known c.args.names.now) _ c.loop-ty.resolved c.args.types.now c.loop-ty.ty-index c.ty-item.result _ c.loop-ty-test.true c.ty-item.is c.in_ok-resolve_whole.ensures.resolved c.loop-ty.invariant)

pub resolve_types-returns-clause-resolved : goal.resolve_types-returns-clause-resolved
resolve_types-returns-clause-resolved t c = types_end (known c.args.names.now) _ c.loop-ty.resolved c.args.types.now c.loop-ty.ty-index c.loop-ty-test.false c.loop-ty.invariant

use Rattle.std.proofs.Common.{◌≡◌, ◌<◌, ◌≤◌, ◌+◌, ◌*◌, ◌⊎◌, inl, inr, IfOk, IfErr, Some, None, refl, ap, sym, subst, ◌∙◌, arith, map, suc, false, get_or, take, length, ◌-◌}
use Rattle.std.proofs.lemmas.Result.{err_from_is_err_and}
use Rattle.diag.specs.Refusal.{Refuses}
use Rattle.written_types.specs.Written.{tuple, written_view, argument_view, arguments_view, writtens_view, writtens_of, arguments_of, type_argument, path_of, segments_view, segment_view, path_view, applied}
use Rattle.resolving.specs.Known.{known}
use Rattle.resolving.specs.Names.{size, sizes, path_size, segment_size, argument_size, arguments_size}
use Rattle.resolving.specs.Resolved.{IsRefusedFor, too_large}
use Rattle.resolving.specs.Expanding.{expanded_here, inside_here, argument_here, list_here, types_here}
use Rattle.written_types.specs.declared.written.Path.{out-Path}
use Rattle.resolving.specs.Aliases.{span_at, ident_at}
use Rattle.resolving.proofs.Expanding.{behind, push_segments, path_last, path_last_size, path_none, segment_list, types_here_are, list_here_is, types_left, list_left, tuple_left, argument_left, large_argument, view_turn, view_end, view-tuple}
use Rattle.resolving.proofs.Levels.{levels, most_levels, room, alias_levels, alias_is, alias_falls, item_levels, argument_item_levels, path_last_levels}
use Rattle.resolving.proofs.aliases.+expand.Goals as goal

pub expand-expand-requires : goal.expand-expand-requires
expand-expand-requires t c =
    let ts = c.args.names.now.alias_types.now in
    let found = c.in-Some.ensures in
    let ty = get_or ts c.in-Some.alias c.index-names-alias.result in
    let same = ap levels (alias_is ts c.in-Some.alias found.0 c.index-names-alias.result found.1) in
    let low = alias_levels ts c.in-Some.alias found.0 found.1 in
    let falls = alias_falls c.in-Some.there.below c.args.place.below (room c.args.names.now) (2 * levels (written_view ty) + 1) (2 * levels (written_view c.args.ty.now) + 1) found.3 (omega (arith, low, same)) in
    omega (arith, falls)

pub expand-returns-in-Some-clause-expanded : goal.expand-returns-in-Some-clause-expanded
expand-returns-in-Some-clause-expanded t c =
    let p = known c.args.names.now in
    let found = c.in-Some.ensures in
    let same = ap (expanded_here p c.in-Some.there) (alias_is c.args.names.now.alias_types.now c.in-Some.alias found.0 c.index-names-alias.result found.1) ∙ found.2 in
    subst (λ x. IfOk c.expand.result (λ made. written_view made.0 ≡ x)) same c.expand.ensures.expanded

pub expand-returns-in-Some-clause-rest : goal.expand-returns-in-Some-clause-rest
expand-returns-in-Some-clause-rest t c =
    let p = known c.args.names.now in
    let found = c.in-Some.ensures in
    let same = ap (expanded_here p c.in-Some.there) (alias_is c.args.names.now.alias_types.now c.in-Some.alias found.0 c.index-names-alias.result found.1) ∙ found.2 in
    subst (λ x. IfOk c.expand.result (λ made. made.1 + size p x ≡ c.args.left)) same c.expand.ensures.rest

pub expand-returns-in-Some-clause-refused : goal.expand-returns-in-Some-clause-refused
expand-returns-in-Some-clause-refused t c =
    let p = known c.args.names.now in
    let found = c.in-Some.ensures in
    let same = ap (expanded_here p c.in-Some.there) (alias_is c.args.names.now.alias_types.now c.in-Some.alias found.0 c.index-names-alias.result found.1) ∙ found.2 in
    subst (λ s. Refuses c.expand.result (λ e. (c.args.left < size p (expanded_here p c.args.place (written_view c.args.ty.now))) × IsRefusedFor (too_large s) e)) found.4
    (subst (λ x. Refuses c.expand.result (λ e. (c.args.left < size p x) × IsRefusedFor (too_large c.in-Some.there.whole) e)) same c.expand.ensures.refused)

pub expand_argument-returns-in_err-ty-clause-refused : goal.expand_argument-returns-in_err-ty-clause-refused
expand_argument-returns-in_err-ty-clause-refused t c =
    let p = known c.args.names.now in
    let q = err_from_is_err_and c.from_residual-in_err-ty.result c.from_residual-in_err-ty.ensures.1 in
    rw (q.1, q.2)
    (elim c.in_err-ty.ensures.refused [
      | inl memory ↦ inl memory
      | inr fault ↦
          let other = sym c.is_constant.ensures ∙ c.if-not-is_constant.true in
          let here = argument_left p c.args.place c.args.argument.now c.in-Ty.ty c.in-Ty.is other in
          let large = ap (argument_size p) here ∙ large_argument p c.at_least_one-most.result (expanded_here p c.args.place (written_view c.in-Ty.ty)) c.at_least_one-most.ensures.one fault.0 in
          let more = c.at_least_one-most.ensures.more in
          inr (omega (arith, large, more, fault.0), fault.1)
    ])

pub expand_inside-returns-in_err-items-in-Tuple-clause-refused : goal.expand_inside-returns-in_err-items-in-Tuple-clause-refused
expand_inside-returns-in_err-items-in-Tuple-clause-refused t c =
    let p = known c.args.names.now in
    let q = err_from_is_err_and c.from_residual-in_err-items-in-Tuple.result c.from_residual-in_err-items-in-Tuple.ensures.1 in
    rw (q.1, q.2)
    (elim c.in_err-items-in-Tuple.ensures.refused [
      | inl memory ↦ inl memory
      | inr fault ↦
          let here = ap (size p) (tuple_left p c.args.place c.args.ty.now c.in-Tuple.items c.in-Tuple.span c.as_slice.result.now c.in-Tuple.is c.as_slice.ensures) in
          let taken = c.in_ok-left-in-Tuple.ensures.taken in
          inr (omega (arith, here, taken, fault.0), fault.1)
    ])

pub expand_inside-returns-in_ok-items-in-Tuple-clause-expanded : goal.expand_inside-returns-in_ok-items-in-Tuple-clause-expanded
expand_inside-returns-in_ok-items-in-Tuple-clause-expanded t c =
    let p = known c.args.names.now in
    let here = tuple_left p c.args.place c.args.ty.now c.in-Tuple.items c.in-Tuple.span c.as_slice.result.now c.in-Tuple.is c.as_slice.ensures in
    view-tuple c.in_ok-items-in-Tuple.items c.span_at-in-Tuple.result ∙ ap (λ xs. tuple xs c.span_at-in-Tuple.result) c.in_ok-items-in-Tuple.ensures.expanded
    ∙ ap (tuple (types_here p c.args.place (writtens_view c.as_slice.result.now))) c.span_at-in-Tuple.ensures ∙ sym here

pub expand_inside-returns-in_ok-items-in-Tuple-clause-rest : goal.expand_inside-returns-in_ok-items-in-Tuple-clause-rest
expand_inside-returns-in_ok-items-in-Tuple-clause-rest t c =
    let p = known c.args.names.now in
    let here = ap (size p) (tuple_left p c.args.place c.args.ty.now c.in-Tuple.items c.in-Tuple.span c.as_slice.result.now c.in-Tuple.is c.as_slice.ensures) in
    let taken = c.in_ok-left-in-Tuple.ensures.taken in
    let rest = c.in_ok-items-in-Tuple.ensures.rest in
    omega (arith, here, taken, rest)

pub expand_list-expand_argument-requires : goal.expand_list-expand_argument-requires
expand_list-expand_argument-requires t c =
    let low = argument_item_levels c.args.arguments.now c.loop-argument.argument-index c.argument-item.result c.loop-argument-test.true c.argument-item.is in
    omega (arith, low)

pub expand_list-returns-in_err-made-clause-refused : goal.expand_list-returns-in_err-made-clause-refused
expand_list-returns-in_err-made-clause-refused t c =
    let p = known c.args.names.now in
    let q = err_from_is_err_and c.from_residual.result c.from_residual.ensures.1 in
    rw (q.1, q.2)
    (elim c.in_err-made.ensures.refused [
      | inl memory ↦ inl memory
      | inr fault ↦
          let left = list_left p c.args.place c.args.arguments.now c.loop-argument.argument-index c.argument-item.result c.loop-argument-test.true c.argument-item.is in
          let before = c.loop-argument.invariant.1 in
          inr (omega (arith, left, before, fault.0), fault.1)
    ])

pub expand_list-loop-argument-preserved : goal.expand_list-loop-argument-preserved
expand_list-loop-argument-preserved t c =
    let p = known c.args.names.now in
    let left = list_left p c.args.place c.args.arguments.now c.loop-argument.argument-index c.argument-item.result c.loop-argument-test.true c.argument-item.is in
    let before = c.loop-argument.invariant.1 in
    let rest = c.in_ok-made.ensures.rest in (
      rw c.in_ok-push.ensures.ok
          (view_turn argument_view (λ a. argument_here p c.args.place (argument_view a)) c.loop-argument.expanded c.args.arguments.now c.loop-argument.argument-index c.in_ok-made.made c.argument-item.result c.loop-argument-test.true c.argument-item.is c.in_ok-made.ensures.expanded c.loop-argument.invariant.0),
      omega (arith, left, before, rest),
    )

pub expand_list-returns-clause-expanded : goal.expand_list-returns-clause-expanded
expand_list-returns-clause-expanded t c =
    let p = known c.args.names.now in
    ap arguments_of (view_end argument_view (λ a. argument_here p c.args.place (argument_view a)) c.loop-argument.expanded c.args.arguments.now c.loop-argument.argument-index c.loop-argument-test.false c.loop-argument.invariant.0)
    ∙ sym (list_here_is p c.args.place c.args.arguments.now)

pub expand_types-expand-requires : goal.expand_types-expand-requires
expand_types-expand-requires t c =
    let low = item_levels c.args.types.now c.loop-ty.ty-index c.ty-item.result c.loop-ty-test.true c.ty-item.is in
    omega (arith, low)

pub expand_types-returns-in_err-made-clause-refused : goal.expand_types-returns-in_err-made-clause-refused
expand_types-returns-in_err-made-clause-refused t c =
    let p = known c.args.names.now in
    let q = err_from_is_err_and c.from_residual.result c.from_residual.ensures.1 in
    rw (q.1, q.2)
    (elim c.in_err-made.ensures.refused [
      | inl memory ↦ inl memory
      | inr fault ↦
          let left = types_left p c.args.place c.args.types.now c.loop-ty.ty-index c.ty-item.result c.loop-ty-test.true c.ty-item.is in
          let before = c.loop-ty.invariant.1 in
          inr (omega (arith, left, before, fault.0), fault.1)
    ])

pub expand_types-loop-ty-preserved : goal.expand_types-loop-ty-preserved
expand_types-loop-ty-preserved t c =
    let p = known c.args.names.now in
    let left = types_left p c.args.place c.args.types.now c.loop-ty.ty-index c.ty-item.result c.loop-ty-test.true c.ty-item.is in
    let before = c.loop-ty.invariant.1 in
    let rest = c.in_ok-made.ensures.rest in (
      rw c.in_ok-push.ensures.ok
          (view_turn written_view (λ x. expanded_here p c.args.place (written_view x)) c.loop-ty.expanded c.args.types.now c.loop-ty.ty-index c.in_ok-made.made c.ty-item.result c.loop-ty-test.true c.ty-item.is c.in_ok-made.ensures.expanded c.loop-ty.invariant.0),
      omega (arith, left, before, rest),
    )

pub expand_types-returns-clause-expanded : goal.expand_types-returns-clause-expanded
expand_types-returns-clause-expanded t c =
    let p = known c.args.names.now in
    ap writtens_of (view_end written_view (λ x. expanded_here p c.args.place (written_view x)) c.loop-ty.expanded c.args.types.now c.loop-ty.ty-index c.loop-ty-test.false c.loop-ty.invariant.0)
    ∙ sym (types_here_are p c.args.place c.args.types.now)

pub expand_path-expand_segment-requires : goal.expand_path-expand_segment-requires
expand_path-expand_segment-requires t c =
    let low = path_last_levels c.args.path.now c.as_slice.result.now c.segment-item.result c.as_slice.ensures c.in-len1-up.len_at_least c.segment-item.is in
    omega (arith, low)

pub expand_path-returns-in_err-segment-in-len1-up-clause-refused : goal.expand_path-returns-in_err-segment-in-len1-up-clause-refused
expand_path-returns-in_err-segment-in-len1-up-clause-refused t c =
    let q = err_from_is_err_and c.from_residual-in_err-segment-in-len1-up.result c.from_residual-in_err-segment-in-len1-up.ensures.1 in
    rw (q.1, q.2)
    (elim c.in_err-segment-in-len1-up.ensures.refused [
      | inl memory ↦ inl memory
      | inr fault ↦
          let here = path_last_size (known c.args.names.now) c.args.place c.args.path.now c.as_slice.result.now c.segment-item.result c.as_slice.ensures c.in-len1-up.len_at_least c.segment-item.is in
          let taken = c.in_ok-left.ensures.taken in
          inr (omega (arith, here, taken, fault.0), fault.1)
    ])

pub expand_path-returns-in-empty-clause-expanded : goal.expand_path-returns-in-empty-clause-expanded
expand_path-returns-in-empty-clause-expanded t c =
    let q = out-Path c.args.path.now in
    c.path_at.ensures ∙ ap (λ xs. path_of q.leading (segments_view xs) (span_at c.args.place.at q.span)) c.new.ensures
    ∙ sym (path_none (known c.args.names.now) c.args.place c.args.path.now c.as_slice.result.now c.as_slice.ensures c.in-empty.len_below)

pub expand_path-returns-in-empty-clause-rest : goal.expand_path-returns-in-empty-clause-rest
expand_path-returns-in-empty-clause-rest t c =
    let p = known c.args.names.now in
    let here = ap (path_size p) (path_none p c.args.place c.args.path.now c.as_slice.result.now c.as_slice.ensures c.in-empty.len_below) in
    let taken = c.in_ok-left.ensures.taken in
    omega (arith, here, taken)

pub expand_path-returns-in_ok-push-in-len1-up-clause-expanded : goal.expand_path-returns-in_ok-push-in-len1-up-clause-expanded
expand_path-returns-in_ok-push-in-len1-up-clause-expanded t c =
    let p = known c.args.names.now in
    let q = out-Path c.args.path.now in
    let ss = c.as_slice.result.now in
    let made = c.in_ok-segments-in-len1-up.segments in
    let last = c.in_ok-segment-in-len1-up.segment in
    let span = span_at c.args.place.at q.span in
    c.path_at-in-len1-up.ensures ∙ ap (λ xs. path_of q.leading (segments_view xs) span) c.in_ok-push-in-len1-up.ensures.ok
    ∙ ap (λ xs. path_of q.leading xs span) (push_segments made last ∙ ap (λ xs. behind xs (segment_view last)) c.in_ok-segments-in-len1-up.ensures ∙ ap (behind (segments_view (take (length ss - 1) ss))) c.in_ok-segment-in-len1-up.ensures.expanded)
    ∙ sym (path_last p c.args.place c.args.path.now ss c.segment-item.result c.as_slice.ensures c.in-len1-up.len_at_least c.segment-item.is)

pub expand_path-returns-in_ok-push-in-len1-up-clause-rest : goal.expand_path-returns-in_ok-push-in-len1-up-clause-rest
expand_path-returns-in_ok-push-in-len1-up-clause-rest t c =
    let here = path_last_size (known c.args.names.now) c.args.place c.args.path.now c.as_slice.result.now c.segment-item.result c.as_slice.ensures c.in-len1-up.len_at_least c.segment-item.is in
    let taken = c.in_ok-left.ensures.taken in
    let rest = c.in_ok-segment-in-len1-up.ensures.rest in
    omega (arith, here, taken, rest)

pub expand_segment-returns-in_err-arguments-in-Some-clause-refused : goal.expand_segment-returns-in_err-arguments-in-Some-clause-refused
expand_segment-returns-in_err-arguments-in-Some-clause-refused t c =
    let p = known c.args.names.now in
    let q = err_from_is_err_and c.from_residual-in_err-arguments-in-Some.result c.from_residual-in_err-arguments-in-Some.ensures.1 in
    rw (q.1, q.2)
    (elim c.in_err-arguments-in-Some.ensures.refused [
      | inl memory ↦ inl memory
      | inr fault ↦
          let here = ap (segment_size p) (segment_list p c.args.place c.args.segment.now c.in-Some.arguments c.as_slice.result.now c.in-Some.is c.as_slice.ensures) in
          inr (omega (arith, here, fault.0), fault.1)
    ])

pub expand_segment-returns-in_ok-arguments-in-Some-clause-expanded : goal.expand_segment-returns-in_ok-arguments-in-Some-clause-expanded
expand_segment-returns-in_ok-arguments-in-Some-clause-expanded t c =
    let p = known c.args.names.now in
    c.named-in-Some.ensures ∙ ap (λ x. applied x (arguments_view c.in_ok-arguments-in-Some.arguments)) c.in_ok-ident.ensures
    ∙ ap (applied (ident_at c.args.place.at c.args.segment.now.ident)) c.in_ok-arguments-in-Some.ensures.expanded
    ∙ sym (segment_list p c.args.place c.args.segment.now c.in-Some.arguments c.as_slice.result.now c.in-Some.is c.as_slice.ensures)

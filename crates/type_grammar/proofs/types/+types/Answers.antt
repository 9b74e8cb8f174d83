use Rattle.std.proofs.lemmas.Grind.{common_steps}
use Rattle.type_grammar.specs.Reading.{path_at, type_step, bound_at, type_in, argument_at, ends_list}
use Rattle.type_grammar.proofs.Chains.{bound_else, segments_last, segments_turn, segments_fail, bounds_done, bounds_turn, bounds_fail}
use Rattle.type_grammar.proofs.Steps.{type_in_zero, type_in_suc}
use Rattle.std.proofs.Common.{◌≡◌, ◌<◌, ◌≤◌, ◌++◌, ◌∷◌, [], map, length, arith, Ok, sym, ap, ◌∙◌, false, true, unwrap_or}
use Rattle.std.proofs.lemmas.Result.{err_from_is_err_and}
use Rattle.std.proofs.lemmas.List.{map_push}
use Rattle.written_types.specs.Written.{written_view, segment_view, argument_view}
use Rattle.words.specs.Words.{words_view}
use Rattle.type_grammar.specs.declared.starts.Bounds.TheVariants.{Any}
use Rattle.words.proofs.Laws.{length_view, like_fails}
use Rattle.type_grammar.proofs.Lists.{list_start, list_done, list_last, list_turn, list_fails}
use Rattle.type_grammar.proofs.Sound.{segment_shortens, bound_shortens}
use Rattle.type_grammar.proofs.types.+types.Goals as goal

pub types_at-list-init : goal.types_at-list-init
types_at-list-init t c = (omega arith, rw c.new-types.ensures (list_start ends_list (type_in c.args.left Any) (words_view c.args.trees.now)))

pub types_at-returns-clause-value : goal.types_at-returns-clause-value
types_at-returns-clause-value t c =
    let ended : ends_list (words_view c.list.rest.now) ≡ true = sym c.ends_list.ensures ∙ c.list-test.false in
    list_done ends_list (type_in c.args.left Any) _ _ _ c.list.invariant.1 ended

pub types_at-returns-in-None-clause-value : goal.types_at-returns-in-None-clause-value
types_at-returns-in-None-clause-value t c =
    let going : ends_list (words_view c.list.rest.now) ≡ false = sym c.ends_list.ensures ∙ c.list-test.true in
    let pushed : map written_view c.push.new.self ≡ map written_view c.list.types ++ written_view c.in_ok-ty.ty ∷ [] = rw c.in_ok-push.ensures.ok (map_push _ c.list.types c.in_ok-ty.ty) in
    rw pushed (list_last ends_list (type_in c.args.left Any) _ _ _ (written_view c.in_ok-ty.ty) (words_view c.in_ok-ty.after.now) c.list.invariant.1 going c.in_ok-ty.ensures.value c.in-None.ensures.value)

pub types_at-returns-in_err-ty-clause-value : goal.types_at-returns-in_err-ty-clause-value
types_at-returns-in_err-ty-clause-value t c =
    let p = err_from_is_err_and c.from_residual.result c.from_residual.ensures.1 in
    let going : ends_list (words_view c.list.rest.now) ≡ false = sym c.ends_list.ensures ∙ c.list-test.true in
    rw (p.1, p.2) (list_fails ends_list (type_in c.args.left Any) _ _ _ c.in_err-ty.field-0.0 c.list.invariant.1 going c.in_err-ty.ensures.value)

pub types_at-list-preserved : goal.types_at-list-preserved
types_at-list-preserved t c =
    let going : ends_list (words_view c.list.rest.now) ≡ false = sym c.ends_list.ensures ∙ c.list-test.true in
    let pushed : map written_view c.push.new.self ≡ map written_view c.list.types ++ written_view c.in_ok-ty.ty ∷ [] = rw c.in_ok-push.ensures.ok (map_push _ c.list.types c.in_ok-ty.ty) in
    let less : length (words_view c.in-Some.mid.now) < length (words_view c.list.rest.now) =
    omega (arith, length_view c.list.rest.now, length_view c.in-Some.mid.now, c.in-Some.ensures.shorter, c.in_ok-ty.ensures.shorter) in
    let closer : length c.in-Some.mid.now ≤ length c.args.trees.now = omega (arith, c.list.invariant.0, c.in-Some.ensures.shorter, c.in_ok-ty.ensures.shorter) in (
      closer,
      rw pushed
          (list_turn ends_list (type_in c.args.left Any) _ _ _ (written_view c.in_ok-ty.ty) (words_view c.in_ok-ty.after.now) (words_view c.in-Some.mid.now) c.list.invariant.1 less going c.in_ok-ty.ensures.value
          c.in-Some.ensures.value),
    )

pub arguments_at-list-init : goal.arguments_at-list-init
arguments_at-list-init t c = (omega arith, rw c.new-arguments.ensures (list_start ends_list (argument_at c.args.bindings (type_in c.args.left)) (words_view c.args.trees.now)))

pub arguments_at-returns-clause-value : goal.arguments_at-returns-clause-value
arguments_at-returns-clause-value t c =
    let ended : ends_list (words_view c.list.rest.now) ≡ true = sym c.ends_list.ensures ∙ c.list-test.false in
    list_done ends_list (argument_at c.args.bindings (type_in c.args.left)) _ _ _ c.list.invariant.1 ended

pub arguments_at-returns-in-None-clause-value : goal.arguments_at-returns-in-None-clause-value
arguments_at-returns-in-None-clause-value t c =
    let going : ends_list (words_view c.list.rest.now) ≡ false = sym c.ends_list.ensures ∙ c.list-test.true in
    let pushed : map argument_view c.push.new.self ≡ map argument_view c.list.arguments ++ argument_view c.in_ok-argument.argument ∷ [] = rw c.in_ok-push.ensures.ok (map_push _ c.list.arguments c.in_ok-argument.argument) in
    rw pushed (list_last ends_list (argument_at c.args.bindings (type_in c.args.left)) _ _ _ (argument_view c.in_ok-argument.argument) (words_view c.in_ok-argument.after.now) c.list.invariant.1 going c.in_ok-argument.ensures.value c.in-None.ensures.value)

pub arguments_at-returns-in_err-argument-clause-value : goal.arguments_at-returns-in_err-argument-clause-value
arguments_at-returns-in_err-argument-clause-value t c =
    let p = err_from_is_err_and c.from_residual.result c.from_residual.ensures.1 in
    let going : ends_list (words_view c.list.rest.now) ≡ false = sym c.ends_list.ensures ∙ c.list-test.true in
    rw (p.1, p.2) (list_fails ends_list (argument_at c.args.bindings (type_in c.args.left)) _ _ _ c.in_err-argument.field-0.0 c.list.invariant.1 going c.in_err-argument.ensures.value)

pub arguments_at-list-preserved : goal.arguments_at-list-preserved
arguments_at-list-preserved t c =
    let going : ends_list (words_view c.list.rest.now) ≡ false = sym c.ends_list.ensures ∙ c.list-test.true in
    let pushed : map argument_view c.push.new.self ≡ map argument_view c.list.arguments ++ argument_view c.in_ok-argument.argument ∷ [] = rw c.in_ok-push.ensures.ok (map_push _ c.list.arguments c.in_ok-argument.argument) in
    let less : length (words_view c.in-Some.mid.now) < length (words_view c.list.rest.now) =
    omega (arith, length_view c.list.rest.now, length_view c.in-Some.mid.now, c.in-Some.ensures.shorter, c.in_ok-argument.ensures.shorter) in
    let closer : length c.in-Some.mid.now ≤ length c.args.trees.now = omega (arith, c.list.invariant.0, c.in-Some.ensures.shorter, c.in_ok-argument.ensures.shorter) in (
      closer,
      rw pushed
          (list_turn ends_list (argument_at c.args.bindings (type_in c.args.left)) _ _ _ (argument_view c.in_ok-argument.argument) (words_view c.in_ok-argument.after.now) (words_view c.in-Some.mid.now) c.list.invariant.1 less going c.in_ok-argument.ensures.value
          c.in-Some.ensures.value),
    )

pub segments_at-returns-in-None-clause-value : goal.segments_at-returns-in-None-clause-value
segments_at-returns-in-None-clause-value t c =
    let pushed : map segment_view c.push.new.self ≡ map segment_view c.path.segments ++ segment_view c.in_ok-segment.segment ∷ [] = rw c.in_ok-push.ensures.ok (map_push _ c.path.segments c.in_ok-segment.segment) in
    rw pushed
    (segments_last c.args.bindings (type_in c.args.left) (segment_shortens c.args.left c.args.bindings) (words_view c.args.trees.now) (map segment_view c.path.segments) (words_view c.path.rest.now) c.path.invariant.1
    (segment_view c.in_ok-segment.segment) c.in_ok-segment.last (words_view c.in_ok-segment.after.now) c.in_ok-segment.ensures.value c.in-None.ensures.value)

pub segments_at-returns-in_err-segment-clause-value : goal.segments_at-returns-in_err-segment-clause-value
segments_at-returns-in_err-segment-clause-value t c =
    let p = err_from_is_err_and c.from_residual.result c.from_residual.ensures.1 in
    rw (p.1, p.2)
    (segments_fail c.args.bindings (type_in c.args.left) (segment_shortens c.args.left c.args.bindings) (words_view c.args.trees.now) (map segment_view c.path.segments) (words_view c.path.rest.now) c.path.invariant.1
    c.in_err-segment.field-0.0 c.in_err-segment.ensures.value)

pub segments_at-path-preserved : goal.segments_at-path-preserved
segments_at-path-preserved t c =
    let pushed : map segment_view c.push.new.self ≡ map segment_view c.path.segments ++ segment_view c.in_ok-segment.segment ∷ [] = rw c.in_ok-push.ensures.ok (map_push _ c.path.segments c.in_ok-segment.segment) in
    let closer : length c.in-Some.mid.now ≤ length c.args.trees.now = omega (arith, c.path.invariant.0, c.in-Some.ensures.shorter, c.in_ok-segment.ensures.shorter) in (
      closer,
      rw pushed
          (segments_turn c.args.bindings (type_in c.args.left) (segment_shortens c.args.left c.args.bindings) (words_view c.args.trees.now) (map segment_view c.path.segments) (words_view c.path.rest.now) c.path.invariant.1
          (segment_view c.in_ok-segment.segment) c.in_ok-segment.last (words_view c.in_ok-segment.after.now) (words_view c.in-Some.mid.now) c.in_ok-segment.ensures.value c.in-Some.ensures.value),
    )

pub bounds_at-returns-in-None-clause-value : goal.bounds_at-returns-in-None-clause-value
bounds_at-returns-in-None-clause-value t c =
    let last = unwrap_or c.bounds.later c.args.first in
    sym c.bounds.invariant.1 ∙ bounds_done (type_in c.args.left) (bound_shortens c.args.left) last (words_view c.bounds.rest.now) c.in-None.ensures.value ∙ ap (λ v. Ok (v, words_view c.bounds.rest.now)) (sym c.unwrap_or.ensures)

pub bounds_at-returns-in_err-bound-in-Some-clause-value : goal.bounds_at-returns-in_err-bound-in-Some-clause-value
bounds_at-returns-in_err-bound-in-Some-clause-value t c =
    let p = err_from_is_err_and c.from_residual.result c.from_residual.ensures.1 in
    let last = unwrap_or c.bounds.later c.args.first in
    rw (p.1, p.2)
    (like_fails c.in_err-bound-in-Some.field-0.0 (sym c.bounds.invariant.1)
    (bounds_fail (type_in c.args.left) (bound_shortens c.args.left) last (words_view c.bounds.rest.now) (words_view c.in-Some.inside.now) c.in_err-bound-in-Some.field-0.0 c.in-Some.ensures.value c.in_err-bound-in-Some.ensures.value))

pub bounds_at-bounds-preserved : goal.bounds_at-bounds-preserved
bounds_at-bounds-preserved t c =
    let last = unwrap_or c.bounds.later c.args.first in
    let closer : length c.in_ok-bound-in-Some.after.now ≤ length c.args.trees.now = omega (arith, c.bounds.invariant.0, c.in-Some.ensures.shorter, c.in_ok-bound-in-Some.ensures.shorter) in (
      closer,
      sym (bounds_turn (type_in c.args.left) (bound_shortens c.args.left) last (words_view c.bounds.rest.now) (words_view c.in-Some.inside.now) (Ok (c.in_ok-bound-in-Some.bound, words_view c.in_ok-bound-in-Some.after.now)) c.in-Some.ensures.value
          c.in_ok-bound-in-Some.ensures.value)
          ∙ c.bounds.invariant.1,
    )

pub path_at-returns-in_err-segments-in-None-clause-value : goal.path_at-returns-in_err-segments-in-None-clause-value
unfolding path_at
path_at-returns-in_err-segments-in-None-clause-value t c = grind (arith, common_steps)

pub path_at-returns-in-empty-clause-value : goal.path_at-returns-in-empty-clause-value
unfolding path_at
path_at-returns-in-empty-clause-value t c = grind (arith, common_steps)

pub type_step-returns-in-empty-clause-value : goal.type_step-returns-in-empty-clause-value
unfolding type_step
type_step-returns-in-empty-clause-value t c = grind (arith, common_steps)

pub type_step-returns-in-Reference-clause-value : goal.type_step-returns-in-Reference-clause-value
unfolding type_step
type_step-returns-in-Reference-clause-value t c = grind (arith, common_steps)

pub type_step-returns-in-Object-clause-value : goal.type_step-returns-in-Object-clause-value
unfolding type_step
type_step-returns-in-Object-clause-value t c = grind (arith, common_steps)

pub type_step-returns-in_ok-round_group-in-Round-clause-value : goal.type_step-returns-in_ok-round_group-in-Round-clause-value
unfolding type_step
type_step-returns-in_ok-round_group-in-Round-clause-value t c = grind (arith, common_steps)

pub type_step-returns-in_ok-square_group-in-Square-clause-value : goal.type_step-returns-in_ok-square_group-in-Square-clause-value
unfolding type_step
type_step-returns-in_ok-square_group-in-Square-clause-value t c = grind (arith, common_steps)

pub bound_at-returns-in_err-path-in-None-clause-value : goal.bound_at-returns-in_err-path-in-None-clause-value
unfolding bound_at
bound_at-returns-in_err-path-in-None-clause-value t c = grind (arith, bound_else)

pub bound_at-returns-in_ok-path-in-None-clause-value : goal.bound_at-returns-in_ok-path-in-None-clause-value
unfolding bound_at
bound_at-returns-in_ok-path-in-None-clause-value t c = grind (arith, bound_else)

pub type_in-returns-then-left-gt0-clause-value : goal.type_in-returns-then-left-gt0-clause-value
type_in-returns-then-left-gt0-clause-value t c = grind (arith, type_in_zero, type_in_suc)

pub type_in-returns-clause-value : goal.type_in-returns-clause-value
type_in-returns-clause-value t c = grind (arith, type_in_zero, type_in_suc)

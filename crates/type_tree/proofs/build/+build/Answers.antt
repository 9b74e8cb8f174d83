use Rattle.std.proofs.Common.{◌≡◌, ◌+◌, ◌++◌, ◌<◌, length, drop, [], Ok, Err, IfOk, ap, sym, ◌∙◌, arith, append-nil}
use Rattle.std.proofs.lemmas.Grind.{common_steps}
use Rattle.std.specs.Option.{option_to_list}
use Rattle.written_types.specs.Written.{arguments_view, writtens_view, segment_view, segments_view}
use Rattle.type_tree.specs.TypeTrees.{trees_view, argument_trees, item_trees, segment_trees, segments_trees}
use Rattle.type_tree.proofs.Joined.{joined, joined_end, items_push, arguments_push, trees_at}
use Rattle.type_tree.proofs.build.+build.Goals as goal
use Rattle.type_tree.proofs.build.+build.Goals.{argument_trees-in-Some+in_ok-push, argument_trees-in_default}

pub item_trees-loop-item-preserved : goal.item_trees-loop-item-preserved
item_trees-loop-item-preserved t c =
    let lt : c.loop-item.item-index < length c.args.items.now = omega arith in
    ap (λ ts. joined (trees_view ts) (item_trees (writtens_view (drop (c.loop-item.item-index + 1) c.args.items.now)))) c.in_ok-push.ensures.items
    ∙ items_push c.loop-item.trees.items c.in_ok-type_tree.field-0 c.args.items.now c.loop-item.item-index c.item-item.result _ lt c.item-item.is c.in_ok-type_tree.ensures c.loop-item.invariant

pub item_trees-returns : goal.item_trees-returns
item_trees-returns t c =
    let all : drop c.loop-item.item-index c.args.items.now ≡ [] = grind (arith, common_steps) in
    sym (joined_end _) ∙ ap (λ xs. joined (trees_view c.loop-item.trees.items) (item_trees (writtens_view xs))) (sym all) ∙ c.loop-item.invariant

pub argument_trees-loop-argument-preserved : goal.argument_trees-loop-argument-preserved
argument_trees-loop-argument-preserved t c =
    let lt : c.loop-argument.argument-index < length c.args.arguments.now = omega arith in
    let after : c.match-branch-2.trees.items ≡ c.loop-argument.trees.items ++ option_to_list c.in_ok-tree.field-0 =
    elim c.match-branch-2.branch [
      | argument_trees-in-Some+in_ok-push w ↦
          ap (λ v. v.items) w.trees-is ∙ w.in_ok-push.ensures.items ∙ ap (λ o. c.loop-argument.trees.items ++ option_to_list o) (sym w.in-Some.is)
      | argument_trees-in_default w ↦
          ap (λ v. v.items) w.trees-is ∙ sym (append-nil c.loop-argument.trees.items) ∙ ap (λ o. c.loop-argument.trees.items ++ option_to_list o) (sym w.in_default.is)
    ] in
    ap (λ ts. joined (trees_view ts) (argument_trees (arguments_view (drop (c.loop-argument.argument-index + 1) c.args.arguments.now)))) after
    ∙ arguments_push c.loop-argument.trees.items c.in_ok-tree.field-0 c.args.arguments.now c.loop-argument.argument-index c.argument-item.result _ lt c.argument-item.is c.in_ok-tree.ensures c.loop-argument.invariant

pub argument_trees-returns : goal.argument_trees-returns
argument_trees-returns t c =
    let all : drop c.loop-argument.argument-index c.args.arguments.now ≡ [] = grind (arith, common_steps) in
    sym (joined_end _) ∙ ap (λ xs. joined (trees_view c.loop-argument.trees.items) (argument_trees (arguments_view xs))) (sym all) ∙ c.loop-argument.invariant

pub segments_trees-returns-in-Some : goal.segments_trees-returns-in-Some
segments_trees-returns-in-Some t c =
    let same = trees_at c.args.segments.now c.in-Some.segment.now c.in-Some.ensures.value in
    elim c.segment_trees.result as (λ r. IfOk r (λ trees. trees_view trees.items ≡ segment_trees (segment_view c.in-Some.segment.now)) → IfOk r (λ trees. trees_view trees.items ≡ segments_trees (segments_view c.args.segments.now))) [
      | Ok trees ↦ λ seen. seen ∙ sym same
      | Err e ↦ λ seen. seen
    ] c.segment_trees.ensures

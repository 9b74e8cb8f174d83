use Rattle.std.proofs.Common.{◌≡◌, ◌∙◌, [], ◌∷◌, map, ap, sym, subst, arith, true, false}
use Rattle.std.proofs.lemmas.List.{length-map}
use Rattle.std.proofs.lemmas.Result.{err_from_is_err_and}
use Rattle.tokens.specs.Trees.{tree_view, trees_view, trees_of, depth}
use Rattle.prepare.specs.Trees.{before}
use Rattle.prepare.specs.Attributes.{after_inner, is_for_tests}
use Rattle.prepare.specs.Items.{item_view}
use Rattle.prepare.specs.Standing.{AreItems, none_yet, StandUpTo, StandIn, itself, all, nothing, for_tests, StopAt, StopIn, Finds}
use Rattle.prepare.proofs.Behind.{weakly, length_past, depth_behind}
use Rattle.prepare.proofs.Passed.{item_past}
use Rattle.prepare.proofs.Repeated.{inner_behind}
use Rattle.prepare.proofs.Stands.{up_to_next, up_to_end, none_left, rest_stops, passed_none, held_finds, inside_finds, depth_less}
use Rattle.prepare.proofs.standing.+standing.Goals as goal

pub pass_items-items-init : goal.pass_items-items-init
pass_items-items-init t c = (rw c.new-standing.ensures none_yet, omega arith)

pub pass_items-stand_in-requires : goal.pass_items-stand_in-requires
pass_items-stand_in-requires t c =
    let less = depth_less (map tree_view c.items.rest.now) (item_view c.in-Ok.item) (map tree_view c.in-Ok.after.now) (depth (trees_view c.args.trees.now)) c.in-Ok.ensures c.items.invariant.1 in
    (omega (arith, less), tt)

pub pass_items-items-smaller : goal.pass_items-items-smaller
pass_items-items-smaller t c =
    let less = length_past (item_past (map tree_view c.items.rest.now) (item_view c.in-Ok.item) (map tree_view c.in-Ok.after.now) c.in-Ok.ensures) in
    omega (arith, less, length-map c.items.rest.now tree_view, length-map c.in-Ok.after.now tree_view)

pub pass_items-items-preserved : goal.pass_items-items-preserved
pass_items-items-preserved t c =
    let rest = map tree_view c.items.rest.now in
    let after = map tree_view c.in-Ok.after.now in
    let deep = depth_behind (weakly (item_past rest (item_view c.in-Ok.item) after c.in-Ok.ensures)) in (
      rw c.in_ok-append-in-Ok.ensures.ok (up_to_next c.items.invariant.0 c.in-Ok.ensures c.in_ok-stand_in-in-Ok.ensures),
      omega (arith, deep, c.items.invariant.1),
    )

pub are_items-returns-in_err-standing : goal.are_items-returns-in_err-standing
are_items-returns-in_err-standing t c =
    let p = err_from_is_err_and c.from_residual.result c.from_residual.ensures.1 in
    rw (p.1, p.2) (passed_none (map tree_view c.args.trees.now) c.in_err-standing.field-0.0 c.in_err-standing.ensures)

pub are_items-returns-then-is_empty : goal.are_items-returns-then-is_empty
are_items-returns-then-is_empty t c =
    let all = map tree_view c.args.trees.now in
    let none = none_left c.in_ok-standing.rest.now (sym c.is_empty.ensures ∙ c.if-is_empty.true) in
    up_to_end all c.in_ok-standing.standing (subst (λ v. StandUpTo all v c.in_ok-standing.standing) none c.in_ok-standing.ensures.0)

pub are_items-returns-else-is_empty : goal.are_items-returns-else-is_empty
are_items-returns-else-is_empty t c =
    let all = map tree_view c.args.trees.now in
    rw c.stop_of.ensures
    (rest_stops all c.in_ok-standing.rest.now c.in_ok-standing.standing c.in_ok-standing.ensures.0 c.in_ok-standing.ensures.1 (sym c.is_empty.ensures ∙ c.if-is_empty.false))

pub stand_in-returns-in_ok-push-in-Stands : goal.stand_in-returns-in_ok-push-in-Stands
stand_in-returns-in_ok-push-in-Stands t c =
    let one : c.push.new.self ≡ c.in-Stands.standing ∷ [] = rw c.new-one.ensures at c.in_ok-push-in-Stands.ensures.ok in
    rw one (subst (λ i. StandIn (item_view i) (c.in-Stands.standing ∷ [])) (sym c.in-Stands.is) itself)

pub stand_in-returns-in-All : goal.stand_in-returns-in-All
stand_in-returns-in-All t c = subst (λ i. StandIn (item_view i) c.in-All.standing) (sym c.in-All.is) all

pub stand_in-returns-in-Holds : goal.stand_in-returns-in-Holds
stand_in-returns-in-Holds t c = subst (λ i. Finds (StandIn (item_view i)) (StopIn (item_view i)) c.stand_inside.result) (sym c.in-Holds.is) (held_finds (map tree_view c.in-Holds.trees.now) c.stand_inside.result c.stand_inside.ensures)

pub stand_in-returns-in-Passed : goal.stand_in-returns-in-Passed
stand_in-returns-in-Passed t c = rw c.new.ensures (subst (λ i. StandIn (item_view i) []) (sym c.in-Passed.is) nothing)

pub stand_inside-returns-then-is_for_tests : goal.stand_inside-returns-then-is_for_tests
stand_inside-returns-then-is_for_tests t c =
    let ts = map tree_view c.args.trees.now in
    let tests : is_for_tests (before ts (after_inner ts)) ≡ true = ap is_for_tests (sym (c.before-2.ensures ∙ ap (before ts) c.after_inner-rest.ensures)) ∙ sym c.is_for_tests.ensures ∙ c.if-is_for_tests.true in
    rw c.new.ensures (for_tests tests)

pub stand_inside-are_items-requires : goal.stand_inside-are_items-requires
stand_inside-are_items-requires t c =
    let deep = depth_behind (inner_behind (map tree_view c.args.trees.now)) in
    let same = ap (λ ts. depth (trees_of ts)) c.after_inner-rest.ensures in
    (omega (arith, deep, same), tt)

pub stand_inside-returns : goal.stand_inside-returns
stand_inside-returns t c =
    let ts = map tree_view c.args.trees.now in
    let others : is_for_tests (before ts (after_inner ts)) ≡ false = ap is_for_tests (sym (c.before-2.ensures ∙ ap (before ts) c.after_inner-rest.ensures)) ∙ sym c.is_for_tests.ensures ∙ c.if-is_for_tests.false in
    inside_finds ts c.are_items.result others (subst (λ v. Finds (AreItems v) (StopAt v) c.are_items.result) c.after_inner-rest.ensures c.are_items.ensures)

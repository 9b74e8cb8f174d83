use Rattle.std.proofs.Common.{◌<◌, ◌+◌, ◌∙◌, List, [], ◌∷◌, ◌++◌, ℕ, length, get_or, set, take, refl, ap, sym, subst, arith, rules}
use Rattle.inlining.proofs.Among.{among_at, targets_at}
use Rattle.plainness.specs.Edges.{AreAdded}
use Rattle.plainness.proofs.Turning.{added-more}
use Rattle.plainness.proofs.turned.add_to.Goals as goal

pub bounds-lists-place : goal.bounds-lists-place
bounds-lists-place c =
    let there = c.requires _ (among_at c.args.places.now c.loop-place.place-index 0 (omega arith)) in
    omega (arith, there, c.loop-place.auto.lists)

pub offset_bounds-lists-place : goal.offset_bounds-lists-place
offset_bounds-lists-place c =
    let within : get_or c.args.places.now c.loop-place.place-index 0 < length c.loop-place.lists = bounds-lists-place c in
    search rules

pub loop-place-preserved : goal.loop-place-preserved
loop-place-preserved c =
    let lists = c.loop-place.lists in
    let places = c.args.places.now in
    let number = c.args.number in
    let k = c.loop-place.place-index in
    let place = get_or places k 0 in
    let at : k < length places = omega arith in
    let there = c.requires _ (among_at places k 0 at) in
    let within : place < length lists = omega (arith, there, c.loop-place.auto.lists) in
    let grown = c.in_ok-push.ensures.ok ∙ ap (λ (ts : List ℕ). ts ++ number ∷ []) (sym (targets_at lists place c.index-lists-place.result within)) in
    subst (λ (ts : List ℕ). AreAdded c.args.lists.now (take (k + 1) places) number (set lists place ts)) (sym grown)
    (added-more lists place number within c.args.lists.now places k at refl c.loop-place.invariant)

use Rattle.std.proofs.Common.{◌≡◌, ◌<◌, ◌∙◌, ℕ, List, Option, None, Some, length, map, is_some, get_or, ap, sym, subst, arith}
use Rattle.inlining.specs.Found.{AreFound, IsGrown}
use Rattle.inlining.specs.Inlining.{targets_of, IsAmong}
use Rattle.inlining.proofs.Among.{among_at, links_read}
use Rattle.plainness.specs.Edges.{AreTurned, AreGiven}
use Rattle.plainness.proofs.Leading.{found-many, found-there, turned-there, walked-first, walked-on, walked-all}
use Rattle.plainness.proofs.origins.origins_of.Goals as goal

pub loop-place-init : goal.loop-place-init
loop-place-init c =
    let walk = c.in_ok-walk.walk in
    record {
      many = c.in_ok-walk.ensures.many ∙ c.requires.many;
      found = c.in_ok-walk.ensures.found;
      walked = walked-first c.args.edges.now c.as_slice-targets.result.now c.args.obstacles.now walk.origins.items walk.numbers c.in_ok-walk.ensures.own c.in_ok-walk.ensures.all;
    }

pub origin-origin-requires-clause-among : goal.origin-origin-requires-clause-among
origin-origin-requires-clause-among c =
    let numbers = c.loop-place.walk.numbers in
    subst (λ (ns : List ℕ). IsAmong (get_or ns c.loop-place.place 0) numbers) (sym c.as_slice.ensures) (among_at numbers c.loop-place.place 0 (omega arith))

-- the links of the number that was read
own-links : (edges targets : List (List ℕ)) (os : List (Option ℕ)) (numbers read : List ℕ) (place : ℕ) (item links : List ℕ) → length targets ≡ length edges → length os ≡ length edges → AreFound (map is_some os) numbers → read ≡ numbers → place < length numbers → item ≡ get_or targets (get_or read place 0) item → links ≡ item → links ≡ targets_of targets (get_or numbers place 0)
own-links edges targets os numbers read place item links turn many found same at is of =
    let number : get_or read place 0 ≡ get_or numbers place 0 = ap (λ (ns : List ℕ). get_or ns place 0) same in
    let there = found-there os numbers (get_or numbers place 0) found (among_at numbers place 0 at) in
    let within : get_or read place 0 < length targets = omega (arith, number, there, turn, many) in
    links_read targets (get_or read place 0) (get_or numbers place 0) item links within number (of ∙ is)

pub add_all-requires-clause-within : goal.add_all-requires-clause-within
add_all-requires-clause-within c = λ n i.
    let walk = c.loop-place.walk in
    let turn = subst (AreTurned c.args.edges.now) (sym c.as_slice-targets.ensures.value) c.in_ok-turned.ensures in
    let links = own-links c.args.edges.now c.as_slice-targets.result.now walk.origins.items walk.numbers c.as_slice.result.now c.loop-place.place c.index-targets-number.result c.as_slice-in-loop-place.result.now turn.many c.loop-place.invariant.many c.loop-place.invariant.found c.as_slice.ensures (omega arith) c.index-targets-number.is c.as_slice-in-loop-place.ensures in
    let below = turned-there c.args.edges.now c.as_slice-targets.result.now c.args.obstacles.now turn (get_or walk.numbers c.loop-place.place 0) n (subst (IsAmong n) links i) in
    subst (λ k. n < k) (sym c.loop-place.invariant.many) below

pub loop-place-preserved : goal.loop-place-preserved
loop-place-preserved c =
    let walk = c.loop-place.walk in
    let after = c.add_all.new.self in
    let place = c.loop-place.place in
    let targets = c.as_slice-targets.result.now in
    let origin = c.origin-origin.result in
    let turn = subst (AreTurned c.args.edges.now) (sym c.as_slice-targets.ensures.value) c.in_ok-turned.ensures in
    let links = own-links c.args.edges.now targets walk.origins.items walk.numbers c.as_slice.result.now place c.index-targets-number.result c.as_slice-in-loop-place.result.now turn.many c.loop-place.invariant.many c.loop-place.invariant.found c.as_slice.ensures (omega arith) c.index-targets-number.is c.as_slice-in-loop-place.ensures in
    let own : get_or walk.origins.items (get_or walk.numbers place 0) None ≡ Some origin =
    subst (λ (ns : List ℕ). get_or walk.origins.items (get_or ns place 0) None ≡ Some origin) c.as_slice.ensures c.origin-origin.ensures in
    record {
      many = c.in_ok-add_all.ensures.many ∙ c.loop-place.invariant.many;
      found = c.in_ok-add_all.ensures.found;
      walked = walked-on c.args.edges.now targets c.args.obstacles.now turn place walk.origins.items after.origins.items walk.numbers after.numbers origin c.loop-place.invariant.walked (omega arith) own
          (subst (λ (ns : List ℕ). AreGiven walk.origins.items ns origin after.origins.items) links c.in_ok-add_all.ensures.given)
          (subst (λ (ns : List ℕ). IsGrown walk.numbers ns after.numbers) links c.in_ok-add_all.ensures.grown);
    }

pub loop-place-smaller : goal.loop-place-smaller
loop-place-smaller c = omega (arith, found-many c.loop-place.walk.origins.items c.loop-place.walk.numbers c.loop-place.invariant.found, c.loop-place.invariant.many)

pub returns : goal.returns
returns c =
    let turn = subst (AreTurned c.args.edges.now) (sym c.as_slice-targets.ensures.value) c.in_ok-turned.ensures in
    walked-all c.args.edges.now c.as_slice-targets.result.now c.args.obstacles.now turn c.loop-place.place c.loop-place.walk.origins.items c.loop-place.walk.numbers c.loop-place.invariant.walked (omega arith) c.loop-place.invariant.many c.loop-place.invariant.found

use Rattle.std.proofs.Common.{◌≡◌, ◌+◌, suc, length, ap, sym, subst, map, add-one, arith}
use Rattle.shapes.specs.Views.{declaration_view}
use Rattle.instances.specs.Entering.{IsWalked, root_at, roots_among}
use Rattle.instances.proofs.Walks.{walked-none, walked-twice}
use Rattle.instances.proofs.walk.enter_roots.Goals as goal

pub loop-place-init : goal.loop-place-init
loop-place-init c = walked-none (map declaration_view c.args.declared.now) c.args.bounds c.args.types.now c.args.found.now c.requires

pub enter_root-requires-clause-found : goal.enter_root-requires-clause-found
enter_root-requires-clause-found c = c.loop-place.invariant.found

pub loop-place-preserved : goal.loop-place-preserved
loop-place-preserved c =
    let ss = map declaration_view c.args.declared.now in
    let n = c.loop-place.place in
    let old = c.args.found.now.instances in
    let same : roots_among ss (suc n) ≡ roots_among ss (n + 1) = ap (roots_among ss) (sym (add-one n)) in
    subst (IsWalked ss c.args.bounds c.args.types.now old c.enter_root.new.types c.enter_root.new.found) same
    (walked-twice ss c.args.bounds c.args.types.now c.loop-place.types c.enter_root.new.types old c.loop-place.found c.enter_root.new.found (roots_among ss n) (root_at ss n) c.loop-place.invariant c.in_ok-enter_root.ensures.walked)

pub returns-clause-walked : goal.returns-clause-walked
returns-clause-walked c =
    let ss = map declaration_view c.args.declared.now in
    let all : c.loop-place.place ≡ length c.args.declared.now = omega (arith, c.loop-place-test.false, c.loop-place.auto.place-end) in
    subst (λ n. IsWalked ss c.args.bounds c.args.types.now c.args.found.now.instances c.loop-place.types c.loop-place.found (roots_among ss n)) all c.loop-place.invariant

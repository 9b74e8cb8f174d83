use Rattle.std.proofs.Common.{◌≡◌, ◌∙◌, IfOk, ap, sym, subst, map, arith}
use Rattle.open_types.specs.Open.{opens_view}
use Rattle.shapes.specs.Instances.{body_over}
use Rattle.shapes.specs.Views.{declaration_view}
use Rattle.plainness.specs.Obstacles.{body_obstacle}
use Rattle.plainness.proofs.Bodies.{place-within, own-body}
use Rattle.plainness.proofs.find.obstacle_at.Goals as goal

pub offset_bounds-declared-declaration : goal.offset_bounds-declared-declaration
offset_bounds-declared-declaration c =
    let within = place-within declaration_view c.args.declared.now c.args.reach.now c.args.number c.reachable_fit.ensures c.requires.fitting c.requires.instances c.requires.number in
    omega (arith, within, c.declaration.ensures)

pub bounds-declared-declaration : goal.bounds-declared-declaration
bounds-declared-declaration c =
    let within = place-within declaration_view c.args.declared.now c.args.reach.now c.args.number c.reachable_fit.ensures c.requires.fitting c.requires.instances c.requires.number in
    omega (arith, within, c.declaration.ensures)

pub returns : goal.returns
returns c =
    let ss = map declaration_view c.args.declared.now in
    let arguments = ap opens_view c.as_slice.ensures ∙ c.in_ok-arguments.ensures in
    let own =
    ap (λ d. (declaration_view d).body) (sym c.index-declared-declaration.is)
    ∙ own-body declaration_view c.args.declared.now c.args.reach.now c.args.number c.reachable_fit.ensures c.requires.fitting c.requires.instances c.requires.number c.declaration.result c.index-declared-declaration.result c.declaration.ensures c.index-declared-declaration.is in
    subst (λ b. IfOk c.body_obstacle.result (λ o. o ≡ body_obstacle ss b)) (λ i. body_over (arguments i) (own i)) c.body_obstacle.ensures

use Rattle.std.proofs.Common.{◌∙◌, ◌++◌, ap, sym, map, take, arith}
use Rattle.std.proofs.lemmas.List.{take_all}
use denote.Bor.{Bor}
use Rattle.open_types.specs.declared.open_type.OpenType.{OpenType}
use Rattle.open_types.specs.Open.{Open, open_view, opens_view, opens_of, substituted}
use Rattle.open_types.specs.Instances.{arguments_of}
use Rattle.shapes.specs.Views.{declaration_view}
use Rattle.instances.specs.Lists.{instance_at}
use Rattle.instances.proofs.Walks.{taken-more}
use Rattle.plainness.specs.Edges.{numbers_in, numbers_among}
use Rattle.plainness.proofs.Bodies.{place-within, own-places, numbers-more}
use Rattle.plainness.proofs.edges.edges_at.Goals as goal

abbrev view : Bor OpenType → Open
view ty = open_view ty.now

pub offset_bounds-declared-declaration : goal.offset_bounds-declared-declaration
offset_bounds-declared-declaration c =
    let within = place-within declaration_view c.args.declared.now c.args.reach.now c.args.number c.reachable_fit.ensures c.requires.fitting c.requires.instances c.requires.number in
    omega (arith, within, c.declaration.ensures)

pub bounds-declared-declaration : goal.bounds-declared-declaration
bounds-declared-declaration c =
    let within = place-within declaration_view c.args.declared.now c.args.reach.now c.args.number c.reachable_fit.ensures c.requires.fitting c.requires.instances c.requires.number in
    omega (arith, within, c.declaration.ensures)

pub loop-ty-preserved : goal.loop-ty-preserved
loop-ty-preserved c =
    let is = c.args.reach.now in
    let put : Open → Open = substituted (arguments_of (instance_at is c.args.number)) in
    let items = c.deref-ty-items.result.now in
    let n = c.loop-ty.ty-index in
    let item = c.ty-item.result in
    let args = ap opens_view c.as_slice.ensures ∙ c.in_ok-arguments.ensures in
    let old = map put (map view (take n items)) in
    c.in_ok-push_place.ensures
    ∙ ap (λ ns. ns ++ numbers_in is (substituted (opens_view c.as_slice.result.now) (view item))) c.loop-ty.invariant
    ∙ ap (λ ts. numbers_among is (opens_of old) ++ numbers_in is (substituted ts (view item))) args
    ∙ sym (numbers-more is old (put (view item)))
    ∙ ap (λ ts. numbers_among is (opens_of ts)) (sym (taken-more view put items n item c.loop-ty-test.true c.ty-item.is))

pub returns : goal.returns
returns c =
    let is = c.args.reach.now in
    let put : Open → Open = substituted (arguments_of (instance_at is c.args.number)) in
    let items = c.deref-ty-items.result.now in
    let whole = own-places declaration_view c.args.declared.now is c.args.number c.reachable_fit.ensures c.requires.fitting c.requires.instances c.requires.number c.declaration.result c.index-declared-declaration.result (map view items) c.declaration.ensures c.index-declared-declaration.is (ap (map view) c.deref-ty-items.ensures.value ∙ c.in_ok-types.ensures) in
    c.loop-ty.invariant
    ∙ ap (λ xs. numbers_among is (opens_of (map put (map view xs)))) (take_all c.loop-ty.ty-index items (omega (arith, c.loop-ty-test.false)))
    ∙ ap (λ ts. numbers_among is (opens_of ts)) whole

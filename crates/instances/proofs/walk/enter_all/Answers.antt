use Rattle.std.proofs.Common.{◌≡◌, ◌<◌, refl, ap, sym, subst, length, map, arith}
use Rattle.std.proofs.lemmas.List.{length-map}
use Rattle.type_table.specs.Types.{type_at}
use Rattle.shapes.specs.Instances.{places_at}
use Rattle.shapes.specs.Views.{declaration_view}
use Rattle.instances.specs.Lists.{IsOneOf, instance_at}
use Rattle.instances.specs.Entering.{AreHeld, roots_among}
use Rattle.instances.proofs.Numbers.{id-within, id-type}
use Rattle.instances.proofs.Walks.{walked-whole, no-fewer, roots-still, places-more}
use Rattle.instances.proofs.walk.enter_all.Goals as goal
use Rattle.instances.proofs.Laws.{at-one}

pub loop-number-init : goal.loop-number-init
loop-number-init c =
    let walked = c.in_ok-enter_roots.ensures.walked in
    record { found = walked.found; within = omega arith; roots = walked.held; places = λ k l. absurd (omega (arith, l)) }

pub enter_places-requires-clause-within : goal.enter_places-requires-clause-within
enter_places-requires-clause-within c =
    let known = c.loop-number.types in
    let ids = c.loop-number.found.instances in
    let is = map (type_at known) ids in
    let l : c.loop-number.number < length is = omega (arith, length-map ids (type_at known), c.loop-number-test.true, c.len.ensures) in
    id-within known ids c.as_slice.result.now is c.loop-number.number c.index-as_slice-number.result c.loop-number.invariant.found.below c.as_slice.ensures refl l c.index-as_slice-number.is

pub enter_places-requires-clause-found : goal.enter_places-requires-clause-found
enter_places-requires-clause-found c = c.loop-number.invariant.found

pub enter_places-requires-clause-reached : goal.enter_places-requires-clause-reached
enter_places-requires-clause-reached c =
    let known = c.loop-number.types in
    let ids = c.loop-number.found.instances in
    let is = map (type_at known) ids in
    let l : c.loop-number.number < length is = omega (arith, length-map ids (type_at known), c.loop-number-test.true, c.len.ensures) in
    let same : type_at known c.index-as_slice-number.result ≡ instance_at is c.loop-number.number =
    id-type known ids c.as_slice.result.now is c.loop-number.number c.index-as_slice-number.result c.loop-number.invariant.found.below c.as_slice.ensures refl l c.index-as_slice-number.is in
    c.loop-number.invariant.found.reached (type_at known c.index-as_slice-number.result) (subst (λ t. IsOneOf t is) (sym same) (at-one is c.loop-number.number l))

pub loop-number-preserved : goal.loop-number-preserved
loop-number-preserved c =
    let ss = map declaration_view c.args.declared.now in
    let known = c.loop-number.types in
    let old = c.loop-number.found in
    let after = c.enter_places.new.types in
    let new = c.enter_places.new.found in
    let n = c.loop-number.number in
    let before = c.loop-number.invariant in
    let is = map (type_at known) old.instances in
    let at : n < length old.instances = omega (arith, c.loop-number-test.true, c.len.ensures) in
    let l : n < length is = omega (arith, length-map old.instances (type_at known), at) in
    let id = c.index-as_slice-number.result in
    let same : type_at known id ≡ instance_at is n = id-type known old.instances c.as_slice.result.now is n id before.found.below c.as_slice.ensures refl l c.index-as_slice-number.is in
    let walked = c.in_ok-enter_places.ensures.walked in
    let ts = places_at ss (type_at known id) in
    record {
      found = walked.found;
      within = omega (arith, at, no-fewer ss c.args.bounds known old before.found after new ts walked);
      roots = roots-still ss c.args.bounds known old before.found after new ts walked (roots_among ss (length c.args.declared.now)) before.roots;
      places = places-more ss c.args.bounds known old before.found after new ts walked n at (ap (places_at ss) same) before.places;
    }

pub returns-clause-found : goal.returns-clause-found
returns-clause-found c = c.loop-number.invariant.found

pub returns-clause-whole : goal.returns-clause-whole
returns-clause-whole c =
    let ss = map declaration_view c.args.declared.now in
    let known = c.loop-number.types in
    let ids = c.loop-number.found.instances in
    let is = map (type_at known) ids in
    let roots : AreHeld (roots_among ss (length ss)) is = subst (λ n. AreHeld (roots_among ss n) is) (sym (length-map c.args.declared.now declaration_view)) c.loop-number.invariant.roots in
    walked-whole ss is roots
    (λ k l. c.loop-number.invariant.places k (omega (arith, l, length-map ids (type_at known), c.loop-number-test.false, c.len.ensures)))

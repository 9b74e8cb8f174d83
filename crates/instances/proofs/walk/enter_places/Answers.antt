use Rattle.std.proofs.Common.{◌≡◌, ◌∙◌, ◌<◌, ◌∷◌, [], ℕ, List, ap, sym, subst, length, map, get_or, take, arith}
use Rattle.std.proofs.lemmas.List.{length-map, take_all}
use denote.Bor.{Bor}
use Rattle.open_types.specs.declared.open_type.OpenType.{OpenType}
use Rattle.open_types.specs.Open.{Open, open_view, substituted, IsOverFirst}
use Rattle.open_types.specs.Instances.{StandsInOne, declared_place, arguments_of, count}
use Rattle.type_table.specs.Types.{type_at, types_at, AllBelow}
use Rattle.type_table.proofs.Laws.{below_front, types_front}
use Rattle.shapes.specs.Declarations.{DeclarationOf, declaration_at, body_types}
use Rattle.shapes.specs.Instances.{places_at}
use Rattle.shapes.specs.InstanceShape.{stands}
use Rattle.shapes.specs.Views.{declaration_view}
use Rattle.instances.specs.Fitting.{IsFit}
use Rattle.instances.specs.Entering.{IsWalked}
use Rattle.instances.proofs.Walks.{below-up, counted-arguments, mapped-at, fit-within, all-places, place-over, place-stands, taken-none, taken-more, walked-none, walked-twice}
use Rattle.instances.proofs.walk.enter_places.Goals as goal
use Rattle.instances.proofs.Laws.{declared-at}

abbrev view : Bor OpenType → Open
view ty = open_view ty.now

-- what the declaration says of its places, as they are in the instance's
module _ {A : Type 0} (f : A → DeclarationOf) (ds : List A) (t : Open) (fit : IsFit (map f ds) t) (place : ℕ) (is : place ≡ declared_place t) (d : A) (at : d ≡ get_or ds place d) (slice given : List (Bor OpenType)) (same : slice ≡ given) (given_are : map view given ≡ body_types (f d).body) where
  types-are : map view slice ≡ body_types (declaration_at (map f ds) (declared_place t)).body
  types-are =
      let l : place < length ds = omega (arith, fit-within (map f ds) t fit, length-map ds f, is) in
      ap (map view) same
      ∙ given_are
      ∙ ap (λ x. body_types (f x).body) at
      ∙ ap (λ s. body_types s.body) (sym (declared-at f ds place d l))
      ∙ ap (λ n. body_types (declaration_at (map f ds) n).body) is

pub loop-ty-init : goal.loop-ty-init
loop-ty-init c =
    let ss = map declaration_view c.args.declared.now in
    let args = arguments_of (type_at c.args.types.now c.args.id) in
    subst (IsWalked ss c.args.bounds c.args.types.now c.args.found.now.instances c.args.types.now c.args.found.now) (sym (taken-none view (substituted args) c.deref-ty-items.result.now))
    (walked-none ss c.args.bounds c.args.types.now c.args.found.now c.requires.found)

pub enter_place-requires-clause-over : goal.enter_place-requires-clause-over
enter_place-requires-clause-over c =
    let f = declaration_view in
    let ss = map f c.args.declared.now in
    let known = c.args.types.now in
    let t = type_at known c.args.id in
    let fit : IsFit ss t = c.reachable_fit.ensures ss c.requires.fitting t c.requires.reached in
    let items = c.deref-ty-items.result.now in
    let are = types-are f c.args.declared.now t fit c.declared_place-place.result c.declared_place-place.ensures c.index-declared-place.result c.index-declared-place.is items c.in_ok-places.places.items c.deref-ty-items.ensures.value c.in_ok-places.ensures in
    let n = c.loop-ty.ty-index in
    let item = c.ty-item.result in
    let at : n < length items = c.loop-ty-test.true in
    let within : n < length (map view items) = omega (arith, at, length-map items view) in
    let here : view item ≡ get_or (map view items) n (view item) = ap view c.ty-item.is ∙ sym (mapped-at view items n item at) in
    let many : count (arguments_of t) ≡ length c.as_slice-arguments.result.now = ap count (sym c.in_ok-ids.ensures.arguments) ∙ counted-arguments known c.in_ok-ids.ids ∙ ap length (sym c.as_slice-arguments.ensures) in
    subst (λ m. IsOverFirst m (view item)) many (place-over ss c.requires.fitting t fit (map view items) are n (view item) within here)

pub enter_place-requires-clause-numbers : goal.enter_place-requires-clause-numbers
enter_place-requires-clause-numbers c =
    let known = c.args.types.now in
    subst (AllBelow (length c.loop-ty.types)) (sym c.as_slice-arguments.ensures)
    (below_front known c.loop-ty.types c.in_ok-ids.ids c.loop-ty.invariant.front (below-up c.args.id known c.in_ok-ids.ids c.requires.within c.in_ok-ids.ensures.below))

pub enter_place-requires-clause-found : goal.enter_place-requires-clause-found
enter_place-requires-clause-found c = c.loop-ty.invariant.found

pub enter_place-requires-clause-reached : goal.enter_place-requires-clause-reached
enter_place-requires-clause-reached c =
    let f = declaration_view in
    let ss = map f c.args.declared.now in
    let known = c.args.types.now in
    let t = type_at known c.args.id in
    let fit : IsFit ss t = c.reachable_fit.ensures ss c.requires.fitting t c.requires.reached in
    let items = c.deref-ty-items.result.now in
    let are = types-are f c.args.declared.now t fit c.declared_place-place.result c.declared_place-place.ensures c.index-declared-place.result c.index-declared-place.is items c.in_ok-places.places.items c.deref-ty-items.ensures.value c.in_ok-places.ensures in
    let n = c.loop-ty.ty-index in
    let item = c.ty-item.result in
    let at : n < length items = c.loop-ty-test.true in
    let within : n < length (map view items) = omega (arith, at, length-map items view) in
    let here : view item ≡ get_or (map view items) n (view item) = ap view c.ty-item.is ∙ sym (mapped-at view items n item at) in
    let args : types_at c.loop-ty.types c.as_slice-arguments.result.now ≡ arguments_of t =
    ap (types_at c.loop-ty.types) c.as_slice-arguments.ensures ∙ types_front known c.loop-ty.types c.in_ok-ids.ids c.loop-ty.invariant.front (below-up c.args.id known c.in_ok-ids.ids c.requires.within c.in_ok-ids.ensures.below) ∙ c.in_ok-ids.ensures.arguments in
    λ u s. stands t u c.requires.reached (place-stands ss c.requires.fitting t fit (map view items) are n (view item) within here u (subst (λ ts. StandsInOne u (substituted ts (view item) ∷ [])) args s))

pub loop-ty-preserved : goal.loop-ty-preserved
loop-ty-preserved c =
    let ss = map declaration_view c.args.declared.now in
    let known = c.args.types.now in
    let t = type_at known c.args.id in
    let items = c.deref-ty-items.result.now in
    let n = c.loop-ty.ty-index in
    let item = c.ty-item.result in
    let put : Open → Open = substituted (arguments_of t) in
    let old = c.args.found.now.instances in
    let after = c.enter_place.new.types in
    let new = c.enter_place.new.found in
    let args : types_at c.loop-ty.types c.as_slice-arguments.result.now ≡ arguments_of t =
    ap (types_at c.loop-ty.types) c.as_slice-arguments.ensures ∙ types_front known c.loop-ty.types c.in_ok-ids.ids c.loop-ty.invariant.front (below-up c.args.id known c.in_ok-ids.ids c.requires.within c.in_ok-ids.ensures.below) ∙ c.in_ok-ids.ensures.arguments in
    let one : IsWalked ss c.args.bounds c.loop-ty.types c.loop-ty.found.instances after new (put (view item) ∷ []) =
    subst (λ ts. IsWalked ss c.args.bounds c.loop-ty.types c.loop-ty.found.instances after new (substituted ts (view item) ∷ [])) args c.in_ok-enter_place.ensures.walked in
    subst (IsWalked ss c.args.bounds known old after new) (sym (taken-more view put items n item c.loop-ty-test.true c.ty-item.is))
    (walked-twice ss c.args.bounds known c.loop-ty.types after old c.loop-ty.found new (map put (map view (take n items))) (put (view item) ∷ []) c.loop-ty.invariant one)

pub returns-clause-walked : goal.returns-clause-walked
returns-clause-walked c =
    let f = declaration_view in
    let ss = map f c.args.declared.now in
    let known = c.args.types.now in
    let t = type_at known c.args.id in
    let fit : IsFit ss t = c.reachable_fit.ensures ss c.requires.fitting t c.requires.reached in
    let items = c.deref-ty-items.result.now in
    let are = types-are f c.args.declared.now t fit c.declared_place-place.result c.declared_place-place.ensures c.index-declared-place.result c.index-declared-place.is items c.in_ok-places.places.items c.deref-ty-items.ensures.value c.in_ok-places.ensures in
    let put : Open → Open = substituted (arguments_of t) in
    let whole : map put (map view (take c.loop-ty.ty-index items)) ≡ places_at ss t =
    ap (λ xs. map put (map view xs)) (take_all c.loop-ty.ty-index items (omega (arith, c.loop-ty-test.false))) ∙ all-places ss c.requires.fitting t fit (map view items) are in
    subst (IsWalked ss c.args.bounds known c.args.found.now.instances c.loop-ty.types c.loop-ty.found) whole c.loop-ty.invariant

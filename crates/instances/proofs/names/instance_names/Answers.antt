use Rattle.std.proofs.Common.{◌≡◌, ◌∙◌, ◌<◌, ℕ, List, ◌++◌, ◌∷◌, [], None, length, map, get_or, ap, sym, subst, arith}
use Rattle.open_types.specs.Open.{Open}
use Rattle.shapes.specs.InstanceNames.{instance_name}
use Rattle.shapes.specs.Views.{declaration_view}
use Rattle.texts.proofs.Laws.{none_from, place-found}
use Rattle.instances.proofs.Places.{name-at, name-push}
use Rattle.instances.proofs.names.instance_names.Goals as goal

pub returns-in-Some : goal.returns-in-Some
returns-in-Some c =
    let f : Open → List ℕ = instance_name (map declaration_view c.args.declared.now) in
    let is = c.args.reach.now in
    let n = c.loop-number.number in
    let m = c.in-Some.earlier in
    let found = place-found c.in_ok-name.name c.loop-number.names m (sym c.in_ok-earlier.ensures.earlier ∙ c.in-Some.is) in
    let before = name-at f is n m (subst (λ ns. m < length ns) c.loop-number.invariant.are found.0) in
    let within : n < length is = omega (arith, c.loop-number-test.true, c.len-number-end.ensures) in
    (before.0, within, sym before.1 ∙ ap (λ ns. get_or ns m []) (sym c.loop-number.invariant.are) ∙ found.1 ∙ c.in_ok-name.ensures)

pub loop-number-preserved : goal.loop-number-preserved
loop-number-preserved c =
    let f : Open → List ℕ = instance_name (map declaration_view c.args.declared.now) in
    let is = c.args.reach.now in
    let n = c.loop-number.number in
    let none : c.in_ok-earlier.field-0 ≡ None = none_from c.in_ok-earlier.field-0 c.in_default.not-Some in
    let within : n < length is = omega (arith, c.loop-number-test.true, c.len-number-end.ensures) in
    record {
      are = c.in_ok-earlier.ensures.added none ∙ (λ i. c.loop-number.invariant.are i ++ c.in_ok-name.ensures i ∷ []) ∙ sym (name-push f is n within);
      named = c.in_ok-earlier.ensures.named none;
    }

use Rattle.std.proofs.Common.{◌≡◌, ◌<◌, ◌∙◌, Some, length, map, get_or, inl, inr, sym, subst, ap, refl}
use Rattle.std.proofs.lemmas.List.{length-map}
use Rattle.diag.specs.Refusal.{IsRefusal}
use Rattle.diag.specs.declared.kind.Kind.TheVariants.{TooManyInstances}
use Rattle.open_types.specs.Open.{Open}
use Rattle.open_types.specs.Instances.{declared_place}
use Rattle.instances.specs.Lists.{instance_at}
use Rattle.instances.specs.Walk.{AreCrowded, IsWalkError}
use Rattle.shapes.specs.Views.{declaration_view}
use Rattle.compose.specs.Bounds.{ident_at, crowded_message}
use Rattle.compose.proofs.Placed.{ident-found, reachable-placed, all-placed}
use Rattle.compose.proofs.bounds.few_instances.Goals as goal

pub returns-in-Ok-clause-placed : goal.returns-in-Ok-clause-placed
returns-in-Ok-clause-placed c = λ n l.
    let ss = map declaration_view c.args.resolved.now in
    subst (λ m. declared_place (instance_at c.in-Ok.reach n) < m) (length-map c.args.resolved.now declaration_view ∙ sym c.requires.many) (all-placed c.reachable_fit.ensures ss c.requires.fitting c.in-Ok.reach c.in-Ok.ensures.reached.instances n l)

pub returns-in_ok-too_many_instances-in-Err-TooMany-clause-refused : goal.returns-in_ok-too_many_instances-in-Err-TooMany-clause-refused
returns-in_ok-too_many_instances-in-Err-TooMany-clause-refused c =
    let ss = map declaration_view c.args.resolved.now in
    let ds = c.args.idents.now in
    let place = c.in-Err-TooMany.place in
    let e = c.in_ok-too_many_instances-in-Err-TooMany.field-0 in
    let limit = c.limit-limit.result in
    let cause = subst (IsWalkError ss limit 256) c.in-Err-TooMany.field-0-is c.in-Err-TooMany.ensures.beyond in
    let t : Open = cause.1.0 in
    let here : declared_place t < length ds = subst (λ m. declared_place t < m) (length-map c.args.resolved.now declaration_view ∙ sym c.requires.many) (reachable-placed c.reachable_fit.ensures ss c.requires.fitting t cause.1.1) in
    let at : declared_place t ≡ place = cause.1.3 in
    let x = get_or ds place c.index-idents-place.result in
    let found : ident_at ds (declared_place t) ≡ Some x = ap (ident_at ds) at ∙ ident-found ds place c.index-idents-place.result (subst (λ d. d < length ds) at here) in
    elim c.in_ok-too_many_instances-in-Err-TooMany.ensures [
      | inl memory ↦ inl memory
      | inr refusal ↦ inr (inl (
        subst (AreCrowded ss) c.limit-limit.ensures.value cause.0,
        (t, cause.1.1, (x.span, (x, found, refl), subst (λ n. IsRefusal TooManyInstances x.span (crowded_message n) e) c.limit-limit.ensures.value refusal)),
      ))
    ]

pub returns-in-Err-TooLarge-clause-refused : goal.returns-in-Err-TooLarge-clause-refused
returns-in-Err-TooLarge-clause-refused c =
    let ss = map declaration_view c.args.resolved.now in
    let ds = c.args.idents.now in
    let place = c.in-Err-TooLarge.place in
    let cause = subst (IsWalkError ss c.limit-limit.result 256) c.in-Err-TooLarge.field-0-is c.in-Err-TooLarge.ensures.beyond in
    let t : Open = cause.0 in
    let here : declared_place t < length ds = subst (λ m. declared_place t < m) (length-map c.args.resolved.now declaration_view ∙ sym c.requires.many) (reachable-placed c.reachable_fit.ensures ss c.requires.fitting t cause.1) in
    let at : declared_place t ≡ place = cause.3 in
    let i = c.index-idents-place-in-Err-TooLarge.result in
    let found : ident_at ds (declared_place t) ≡ Some (get_or ds place i) = ap (ident_at ds) at ∙ ident-found ds place i (subst (λ d. d < length ds) at here) in
    elim c.too_large.ensures [
      | inl memory ↦ inl memory
      | inr refusal ↦ inr (inr (t, cause.1, cause.2, ((get_or ds place i).span, (get_or ds place i, found, refl), refusal)))
    ]

use Rattle.std.proofs.Common.{arith, ◌<◌, ◌≤◌, ◌-◌, ◌^◌, ◌∷◌, sym, subst, inl, length, map, set, true}
use Rattle.std.proofs.lemmas.List.{length-map}
use Rattle.open_types.specs.Instances.{type_size}
use Rattle.type_table.specs.Types.{type_at}
use Rattle.shapes.specs.InstanceShape.{IsReachable}
use Rattle.shapes.specs.Views.{declaration_view}
use Rattle.instances.specs.Entering.{AreEntered}
use Rattle.instances.proofs.Entered.{instance-stands, counted, new-instance, each-cons, entered-instance}
use Rattle.instances.proofs.enter.enter_instance.Goals as goal

pub returns-then-len-bounds-clause-beyond : goal.returns-then-len-bounds-clause-beyond
returns-then-len-bounds-clause-beyond c =
    let ss = map declaration_view c.args.declared.now in
    let known = c.args.types.now in
    let found = c.requires.found in
    let marks = c.args.found.now.entered.items in
    let ids = c.args.found.now.instances in
    let is = map (type_at known) ids in
    let t = type_at known c.args.id in
    let stands = instance-stands t c.args.place c.requires.place in
    let reached : IsReachable ss t = c.requires.reached t (inl stands.0) in
    let new = new-instance ss c.args.bounds.limit c.args.bounds.most c.instances_stand_by_parts.ensures known marks ids found c.args.id c.requires.within c.requires.room c.requires.parts c.stand_apart.ensures.apart c.requires.fresh reached in
    let more : c.args.bounds.limit < length (t ∷ is) = omega (arith, length-map ids (type_at known), c.if-len-bounds.true, c.len.ensures) in
    ((t ∷ is, (new, found.different), each-cons (IsReachable ss) t is reached found.reached, more), (t, reached, tt, stands.1))

pub returns-clause-found : goal.returns-clause-found
returns-clause-found c =
    let ss = map declaration_view c.args.declared.now in
    let known = c.args.types.now in
    let limit = c.args.bounds.limit in
    let most = c.args.bounds.most in
    let marks = c.args.found.now.entered.items in
    let ids = c.args.found.now.instances in
    let id = c.args.id in
    let t = type_at known id in
    let stands = instance-stands t c.args.place c.requires.place in
    let reached : IsReachable ss t = c.requires.reached t (inl stands.0) in
    let few : length ids < limit = omega (arith, c.if-len-bounds.false, c.len.ensures) in
    let small : type_size t ≤ most = counted (type_size t) (2 ^ 64 - 1) most (subst (λ n. n ≤ most) c.size.ensures c.if-size-bounds.false) c.args.bounds.counted in
    subst (λ n. AreEntered ss known limit most (set marks n true) c.push.new.self) (sym c.number.ensures)
    (subst (AreEntered ss known limit most (set marks id true)) (sym c.in_ok-push.ensures.ok)
    (entered-instance ss limit most c.instances_stand_by_parts.ensures known marks ids c.requires.found id c.requires.within c.requires.room c.requires.parts c.stand_apart.ensures.apart c.requires.fresh reached few small))

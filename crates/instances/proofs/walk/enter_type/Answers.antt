use Rattle.std.proofs.Common.{◌≡◌, ◌∷◌, [], ap, subst, map}
use Rattle.std.proofs.lemmas.Result.{on_ok_weaker}
use Rattle.open_types.specs.Open.{open_view, substituted}
use Rattle.type_table.specs.Types.{type_at, types_at}
use Rattle.shapes.specs.Views.{declaration_view}
use Rattle.instances.specs.Entering.{IsWalked}
use Rattle.instances.proofs.Walks.{entered-front, walked-before}
use Rattle.instances.proofs.walk.enter_type.Goals as goal

pub enter_grown-requires-clause-found : goal.enter_grown-requires-clause-found
enter_grown-requires-clause-found c =
    entered-front (map declaration_view c.args.declared.now) c.args.bounds.limit c.args.bounds.most c.args.types.now c.substitute.new.self c.args.found.now.entered.items c.args.found.now.instances c.in_ok-id.ensures.front c.requires.found

pub returns-clause-walked : goal.returns-clause-walked
returns-clause-walked c =
    let ss = map declaration_view c.args.declared.now in
    let known = c.args.types.now in
    let after = c.substitute.new.self in
    let old = c.args.found.now.instances in
    let new = c.enter_grown.new.found in
    let put = substituted (types_at known c.args.arguments.now) (open_view c.args.ty.now) in
    let same : type_at after c.in_ok-id.id ∷ [] ≡ put ∷ [] = ap (λ t. t ∷ []) c.in_ok-id.ensures.value in
    on_ok_weaker c.enter_grown.result
    (λ w. subst (IsWalked ss c.args.bounds known old after new) same (walked-before ss c.args.bounds known after after old new (type_at after c.in_ok-id.id ∷ []) c.in_ok-id.ensures.front w))
    c.enter_grown.ensures.walked

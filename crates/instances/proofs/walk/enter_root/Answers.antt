use Rattle.std.proofs.Common.{◌≡◌, ◌∙◌, ◌<◌, ◌∷◌, [], OnOk, ap, sym, subst, length, get_or, map, arith}
use Rattle.std.proofs.lemmas.List.{length-map}
use Rattle.open_types.specs.Open.{open_view, named, no_types, substituted}
use Rattle.open_types.specs.Instances.{StandsInOne}
use Rattle.shapes.specs.Declarations.{parameters_in}
use Rattle.shapes.specs.Views.{declaration_view}
use Rattle.instances.specs.Entering.{IsWalked, root_at}
use Rattle.instances.proofs.Walks.{walked-none, root-none, root-one, root-reached}
use Rattle.instances.proofs.walk.enter_root.Goals as goal
use Rattle.instances.proofs.Laws.{declared-at}

pub returns-then-declared-place-ne0-clause-walked : goal.returns-then-declared-place-ne0-clause-walked
returns-then-declared-place-ne0-clause-walked c =
    let f = declaration_view in
    let ss = map f c.args.declared.now in
    let known = c.args.types.now in
    let found = c.args.found.now in
    let parameters : (get_or c.args.declared.now c.args.place c.index-declared-place.result).parameters ≡ parameters_in ss c.args.place =
    ap (λ s. s.parameters) (sym (declared-at f c.args.declared.now c.args.place c.index-declared-place.result c.requires.place)) in
    subst (IsWalked ss c.args.bounds known found.instances known found) (sym (root-none ss c.args.place (λ e. c.if-declared-place-ne0.true (parameters ∙ e)))) (walked-none ss c.args.bounds known found c.requires.found)

pub enter_place-requires-clause-reached : goal.enter_place-requires-clause-reached
enter_place-requires-clause-reached c =
    let f = declaration_view in
    let ss = map f c.args.declared.now in
    let parameters : (get_or c.args.declared.now c.args.place c.index-declared-place.result).parameters ≡ parameters_in ss c.args.place =
    ap (λ s. s.parameters) (sym (declared-at f c.args.declared.now c.args.place c.index-declared-place.result c.requires.place)) in
    let view : open_view c.as_open.result.now ≡ named c.args.place no_types = ap open_view c.as_open.ensures.same ∙ c.declared-root.ensures in
    let within : c.args.place < length ss = omega (arith, c.requires.place, length-map c.args.declared.now f) in
    λ u s. root-reached ss c.args.place (within, sym parameters ∙ c.if-declared-place-ne0.false) u (subst (λ t. StandsInOne u (substituted no_types t ∷ [])) view s)

pub returns-clause-walked : goal.returns-clause-walked
returns-clause-walked c =
    let f = declaration_view in
    let ss = map f c.args.declared.now in
    let parameters : (get_or c.args.declared.now c.args.place c.index-declared-place.result).parameters ≡ parameters_in ss c.args.place =
    ap (λ s. s.parameters) (sym (declared-at f c.args.declared.now c.args.place c.index-declared-place.result c.requires.place)) in
    let view : open_view c.as_open.result.now ≡ named c.args.place no_types = ap open_view c.as_open.ensures.same ∙ c.declared-root.ensures in
    let same : substituted no_types (open_view c.as_open.result.now) ∷ [] ≡ root_at ss c.args.place = ap (λ t. substituted no_types t ∷ []) view ∙ sym (root-one ss c.args.place (sym parameters ∙ c.if-declared-place-ne0.false)) in
    subst (λ ts. OnOk c.enter_place.result (IsWalked ss c.args.bounds c.args.types.now c.args.found.now.instances c.enter_place.new.types c.enter_place.new.found ts)) same c.enter_place.ensures.walked

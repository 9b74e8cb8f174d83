use Rattle.std.proofs.Common.{◌∙◌, ◌<◌, ap, sym, subst, length, get_or, None}
use Rattle.std.proofs.lemmas.List.{get_or_default}
use Rattle.open_types.specs.Open.{open_view}
use Rattle.type_table.proofs.Laws.{not-listed}
use Rattle.instances.specs.Lists.{number_in}
use Rattle.instances.proofs.Numbers.{number-found, number-missing, found-type}
use Rattle.instances.proofs.reach.Reach.number.Goals as goal

pub returns-in_err-id : goal.returns-in_err-id
returns-in_err-id c =
    let known = c.self.inside.types in
    let t = open_view c.args.ty.now in
    c.from_residual.ensures
    ∙ sym (number-missing c.same_types_are_equal.ensures known c.stand_apart.ensures.apart t c.self.inside.instances c.self.invariant.within (not-listed known t c.in_err-id.ensures))
    ∙ ap (λ is. number_in is t) c.self.view_is

pub returns : goal.returns
returns c =
    let known = c.self.inside.types in
    let t = open_view c.args.ty.now in
    let id = c.in_ok-id.id in
    let at = found-type known t id c.in_ok-id.ensures in
    let within : id < length c.self.inside.numbers.items = subst (λ n. id < n) (sym c.self.invariant.many) at.0 in
    c.index.ensures
    ∙ ap (λ n. get_or c.self.inside.numbers.items n c.index.result.now) c.number.ensures
    ∙ get_or_default c.self.inside.numbers.items id c.index.result.now None within
    ∙ c.self.invariant.placed id at.0
    ∙ number-found c.same_types_are_equal.ensures known c.stand_apart.ensures.apart t c.self.inside.instances id c.self.invariant.within at.0 at.1
    ∙ ap (λ is. number_in is t) c.self.view_is

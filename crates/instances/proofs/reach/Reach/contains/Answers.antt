use Rattle.std.proofs.Common.{◌∙◌, IsTrue, is_some, ap, subst, sym}
use Rattle.open_types.specs.Open.{open_view}
use Rattle.instances.proofs.Numbers.{found-one, one-found}
use Rattle.instances.proofs.reach.Reach.contains.Goals as goal

pub returns : goal.returns
returns c =
    let t = open_view c.args.ty.now in
    let is = c.args.self.now in
    let same = c.is_some.ensures ∙ ap is_some c.number.ensures in
    (λ h. found-one c.same_types_are_equal.ensures is t (subst IsTrue same h), λ o. subst IsTrue (sym same) (one-found c.same_types_are_equal.ensures is t o))

use Rattle.std.proofs.Common.{◌∙◌, is_some, ap, sym}
use Rattle.std.proofs.lemmas.Bool.{false≢true}
use Rattle.open_types.specs.Open.{open_view}
use Rattle.instances.proofs.Numbers.{one-found, number-is}
use Rattle.instances.proofs.reach.Reach.number_of.Goals as goal

pub unreachable-requires : goal.unreachable-requires
unreachable-requires c = false≢true (ap is_some (sym c.in-None.is ∙ c.number.ensures) ∙ one-found c.same_types_are_equal.ensures c.args.self.now (open_view c.args.ty.now) c.requires)

pub returns : goal.returns
returns c =
    let at = number-is c.same_types_are_equal.ensures c.args.self.now (open_view c.args.ty.now) c.in-Some.number (sym c.number.ensures ∙ c.in-Some.is) in
    record { within = at.0; is = at.1 }

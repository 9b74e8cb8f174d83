use Rattle.std.proofs.Common.{sym, subst, map}
use Rattle.shapes.specs.Views.{declaration_view}
use Rattle.instances.specs.Walk.{AreReached}
use Rattle.instances.proofs.Walks.{whole-reached}
use Rattle.instances.proofs.walk.reach_of.Goals as goal

pub returns-clause-reached : goal.returns-clause-reached
returns-clause-reached c =
    let ss = map declaration_view c.args.declared.now in
    let found = c.enter_all.new.found in
    subst (AreReached ss c.args.limit c.args.most) (sym c.in_ok-new.ensures)
    (whole-reached ss c.enter_all.new.types c.args.limit c.args.most found.entered.items found.instances c.in_ok-enter_all.ensures.found c.in_ok-enter_all.ensures.whole)

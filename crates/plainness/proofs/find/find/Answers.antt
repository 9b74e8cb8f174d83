use Rattle.std.proofs.Common.{◌∙◌, map, sym, subst}
use Rattle.inlining.specs.Inlining.{AreTargets}
use Rattle.shapes.specs.Views.{declaration_view}
use Rattle.plainness.proofs.Numbered.{edges-there}
use Rattle.plainness.proofs.find.find.Goals as goal

pub origins_of-requires-clause-edges : goal.origins_of-requires-clause-edges
origins_of-requires-clause-edges c =
    subst AreTargets (sym (c.as_slice.ensures ∙ c.in_ok-edges.ensures)) (edges-there c.same_types_are_equal.ensures (map declaration_view c.args.declared.now) c.args.reach.now)

use Rattle.std.proofs.Common.{map, subst}
use Rattle.shapes.specs.Views.{declaration_view}
use Rattle.instances.specs.Naming.{IsNaming}
use Rattle.compose.proofs.bounds.names_apart.Goals as goal

pub clash-requires-clause-reachable : goal.clash-requires-clause-reachable
clash-requires-clause-reachable c =
    let ss = map declaration_view c.args.resolved.now in
    let is = c.args.reach.now in
    let twice = subst (IsNaming ss is) c.in-Clash.is c.in_ok-names.ensures in
    let differ = c.distinct_names_differ.ensures.numbers ss is c.requires.instances c.in-Clash.first c.in-Clash.second twice.0 twice.1 in
    (differ.0, differ.1)

pub clash-requires-clause-differ : goal.clash-requires-clause-differ
clash-requires-clause-differ c =
    let ss = map declaration_view c.args.resolved.now in
    let is = c.args.reach.now in
    let twice = subst (IsNaming ss is) c.in-Clash.is c.in_ok-names.ensures in
    (c.distinct_names_differ.ensures.numbers ss is c.requires.instances c.in-Clash.first c.in-Clash.second twice.0 twice.1).2

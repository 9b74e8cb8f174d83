use Rattle.std.proofs.Common.{◌∙◌}
use Rattle.plainness.specs.Obstacles.{is_open_map}
use Rattle.plainness.proofs.Declared.{said_here, said_past}
use Rattle.plainness.proofs.obstacle.declares_open_map.Goals as goal

pub returns-in-Some : goal.returns-in-Some
returns-in-Some c =
    let known = c.in-Some.ensures.lookup in
    c.is_open_map.ensures ∙ said_here is_open_map c.args.declared.now c.args.place c.in-Some.declaration.now known.3.0 known.1

pub returns-in-None : goal.returns-in-None
returns-in-None c = said_past is_open_map c.args.declared.now c.args.place c.in-None.ensures.lookup.3

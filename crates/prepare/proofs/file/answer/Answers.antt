use Rattle.std.proofs.Common.{subst}
use Rattle.prepare.specs.Trees.{listed}
use Rattle.prepare.specs.Standing.{StandInside, StopInside, Finds}
use Rattle.prepare.proofs.Answered.{is_file, unread, shallow}
use Rattle.prepare.proofs.Lying.{file_slices, stops_lie}
use Rattle.prepare.proofs.file.answer.Goals as goal

pub returns-in-Ok-clause-file : goal.returns-in-Ok-clause-file
returns-in-Ok-clause-file c = is_file c.args.source.now c.requires.trees c.in-Ok.standing c.requires.cut (subst (Finds (StandInside (listed c.requires.trees)) (StopInside (listed c.requires.trees))) c.in-Ok.is c.requires.is)

pub returns-in-Ok-clause-slices : goal.returns-in-Ok-clause-slices
returns-in-Ok-clause-slices c =
    let source = c.args.source.now in
    let trees = c.requires.trees in
    file_slices c.trees_lie.ensures source c.in-Ok.standing c.utf8.source
    (is_file source trees c.in-Ok.standing c.requires.cut (subst (Finds (StandInside (listed trees)) (StopInside (listed trees))) c.in-Ok.is c.requires.is))

pub returns-in-Ok-clause-shallow : goal.returns-in-Ok-clause-shallow
returns-in-Ok-clause-shallow c = λ span opens. shallow c.deep_brackets_nest_deep.ensures c.args.source.now c.requires.trees span c.requires.cut c.requires.shallow opens

pub returns-in-Err-clause-refused : goal.returns-in-Err-clause-refused
returns-in-Err-clause-refused c =
    let trees = c.requires.trees in
    unread c.one_cut.ensures (stops_lie c.trees_lie.ensures) c.args.source.now trees c.in-Err.stop c.refusal.result c.utf8.source c.requires.cut
    (subst (Finds (StandInside (listed trees)) (StopInside (listed trees))) c.in-Err.is c.requires.is) c.refusal.ensures

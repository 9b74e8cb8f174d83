use Rattle.std.proofs.Common.{inr, refl}
use Rattle.reporting.specs.Beginning.{beginning_of}
use Rattle.reporting.proofs.reading.end_of.Goals as goal

pub returns-in-Ok-clause-owed : goal.returns-in-Ok-clause-owed
returns-in-Ok-clause-owed g c =
    let begun = beginning_of g.S.Source g.F.Files c.args.words.now c.args.input.now c.args.files.now in
    c.end_of_rest.ensures.owed begun c.in-Ok.ensures.form (c.in-Ok.ensures.rest begun.left) refl

pub returns-in-Ok-clause-unread : goal.returns-in-Ok-clause-unread
returns-in-Ok-clause-unread g c =
    let begun = beginning_of g.S.Source g.F.Files c.args.words.now c.args.input.now c.args.files.now in
    c.end_of_rest.ensures.unread begun (c.in-Ok.ensures.rest begun.left)

pub returns-in-Ok-clause-unread_refusal : goal.returns-in-Ok-clause-unread_refusal
returns-in-Ok-clause-unread_refusal g c = λ kind is.
    let begun = beginning_of g.S.Source g.F.Files c.args.words.now c.args.input.now c.args.files.now in
    inr (c.end_of_rest.ensures.of_given begun kind (c.in-Ok.ensures.rest begun.left) refl is)

pub returns-in-Ok-clause-end : goal.returns-in-Ok-clause-end
returns-in-Ok-clause-end g c =
    let begun = beginning_of g.S.Source g.F.Files c.args.words.now c.args.input.now c.args.files.now in
    c.end_of_rest.ensures.end begun (c.in-Ok.ensures.rest begun.left)

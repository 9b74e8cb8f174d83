use Rattle.std.proofs.lemmas.Result.{IfOk-weaker}
use Rattle.file_runs.specs.Shown.{wanted}
use Rattle.file_runs.proofs.Ended.{writing_ends}
use Rattle.file_runs.proofs.document.document_text.Goals as goal

pub returns-in-Ok-clause-document : goal.returns-in-Ok-clause-document
returns-in-Ok-clause-document c =
    IfOk-weaker c.written_of.result _ _
    (λ w writes files gathers.
    let made = c.in-Ok.ensures.derived files gathers in
    (c.in-Ok.composition, made.0, made.1, writes made.0 made.2)) c.written_of.ensures.written

pub returns-in-Ok-clause-ending : goal.returns-in-Ok-clause-ending
returns-in-Ok-clause-ending c =
    writing_ends (wanted c.args.request.now c.args.reading.options.openapi c.args.reading.options.check) c.args.reading.options.config c.args.reading.gathered c.in-Ok.composition c.in-Ok.warnings c.in-Ok.ensures.derived c.written_of.result c.written_of.ensures.ending

use Rattle.std.proofs.Common.{◌∙◌, Err, ap}
use Rattle.file_runs.specs.Reports.{fault_line}
use Rattle.file_runs.proofs.reading.bytes_at.Goals as goal

pub returns-in-Err-Failed-clause-failed : goal.returns-in-Err-Failed-clause-failed
returns-in-Err-Failed-clause-failed g c = λ fault.
    let failed = c.in-Err-Failed.is ∙ ap Err c.in-Err-Failed.field-0-is in
    (c.read_file.ensures.counted failed, c.read_file.ensures.path failed, c.file_fault.ensures.told fault ∙ ap (fault_line c.args.path.now) c.cause.ensures)

use Rattle.std.proofs.lemmas.Result.{IfOk-weaker}
use Rattle.file_runs.proofs.OptionFiles.{read_document}
use Rattle.file_runs.proofs.named.value_in.Goals as goal

pub returns-in-Some : goal.returns-in-Some
returns-in-Some c = IfOk-weaker c.value_of.result _ _ (λ found is. read_document _ _ _ found c.in-Some.is c.as_slice.ensures is) c.value_of.ensures

use Rattle.std.proofs.Common.{IsTrue}
use Rattle.schema_core.proofs.Refers.{form-refers}
use Rattle.schema_core.proofs.law.forms_refer.Goals as goal

pub returns : goal.returns
returns c = λ keyword passes s h. form-refers keyword (λ name. IsTrue (passes name)) s h

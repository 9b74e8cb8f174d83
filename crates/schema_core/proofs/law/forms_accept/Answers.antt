use Rattle.schema_core.proofs.Forms.{form-accepts}
use Rattle.schema_core.proofs.law.forms_accept.Goals as goal

pub returns : goal.returns
returns c = form-accepts

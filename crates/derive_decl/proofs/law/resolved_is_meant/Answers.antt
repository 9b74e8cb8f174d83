use Rattle.derive_decl.proofs.Meant.{resolved_is_meant}
use Rattle.derive_decl.proofs.law.resolved_is_meant.Goals as goal

pub returns : goal.returns
returns c = resolved_is_meant

use Rattle.std.proofs.Common.{subst, sym}
use Rattle.prepare.specs.Prepared.{IsRefusalOf}
use Rattle.prepare.proofs.file.refusal.Goals as goal

pub returns-in-At : goal.returns-in-At
returns-in-At c = subst (λ s. IsRefusalOf s c.syntax.result) (sym c.in-At.is) c.syntax.ensures

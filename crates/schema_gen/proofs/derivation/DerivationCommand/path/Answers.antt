use Rattle.std.proofs.Common.{ap, subst}
use Rattle.schema_gen.specs.Words.{AskFor, asked_of}
use Rattle.schema_gen.proofs.Told.{no_path, one_form, path_alone}
use Rattle.schema_gen.proofs.derivation.DerivationCommand.path.Goals as goal

pub returns-in-Plain : goal.returns-in-Plain
returns-in-Plain c = λ words asked. no_path words (subst (AskFor words) (ap asked_of c.in-Plain.is) asked)

pub returns-in-Configured : goal.returns-in-Configured
returns-in-Configured c = λ words asked. path_alone words c.in-Configured.path.now (subst (AskFor words) (ap asked_of c.in-Configured.is) asked)

pub returns-in-Sample : goal.returns-in-Sample
returns-in-Sample c = λ words asked path derives. one_form words _ _ derives (subst (AskFor words) (ap asked_of c.in-Sample.is) asked)

use Rattle.std.proofs.Common.{ap, subst}
use Rattle.schema_gen.specs.Given.{of_sample}
use Rattle.schema_gen.specs.Words.{AskFor, asked_of}
use Rattle.schema_gen.proofs.Told.{one_form}
use Rattle.schema_gen.proofs.derivation.DerivationCommand.without_file.Goals as goal

pub returns-in_ok-sample_line-in-Sample-clause-rest : goal.returns-in_ok-sample_line-in-Sample-clause-rest
returns-in_ok-sample_line-in-Sample-clause-rest c = λ begun none.
    let samples = subst (AskFor begun.words) (ap asked_of c.in-Sample.is) none.asked in
    (λ asks. one_form begun.words asks.1.0 _ asks.1.1 samples, (of_sample _, samples, c.in_ok-sample_line-in-Sample.ensures.made))

use Rattle.closing.proofs.InstanceCopies.{no-more-in-all}
use Rattle.closing.proofs.law.no_more_in_all.Goals as goal

pub returns : goal.returns
returns c = no-more-in-all

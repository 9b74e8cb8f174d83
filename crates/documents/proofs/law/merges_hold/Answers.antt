use Rattle.documents.proofs.MergeLaws.{merges_hold}
use Rattle.documents.proofs.law.merges_hold.Goals as goal

pub returns : goal.returns
returns c = merges_hold

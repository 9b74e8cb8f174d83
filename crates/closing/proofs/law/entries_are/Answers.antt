use Rattle.closing.proofs.EntriesAt.{entries-are}
use Rattle.closing.proofs.law.entries_are.Goals as goal

pub returns : goal.returns
returns c = entries-are

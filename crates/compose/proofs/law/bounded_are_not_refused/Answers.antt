use Rattle.compose.proofs.Bounded.{not_refused}
use Rattle.compose.proofs.law.bounded_are_not_refused.Goals as goal

pub returns : goal.returns
returns c = not_refused c.none_are_more.ensures c.no_more_in_all.ensures

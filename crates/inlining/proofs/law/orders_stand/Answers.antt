use Rattle.std.proofs.Common.{[], take}
use Rattle.inlining.proofs.Orders.{behind_at, seen_only}
use Rattle.inlining.proofs.law.orders_stand.Goals as goal

pub returns : goal.returns
returns c = λ g order is i l. let here = behind_at g [] order i is.behind l in (here.0, λ t among. seen_only (take i order) t (here.1 t among))

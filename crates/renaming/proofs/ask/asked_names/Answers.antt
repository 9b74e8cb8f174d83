use Rattle.std.proofs.Common.{IfOk, map, subst}
use Rattle.diag.specs.Refusal.{RefusesNone}
use Rattle.syntax.specs.Items.{declaration_view}
use Rattle.renaming.specs.Refusals.{AreRefusedItems}
use Rattle.renaming.proofs.ask.asked_names.Goals as goal

pub returns-clause-faultless : goal.returns-clause-faultless
returns-clause-faultless c = subst (λ ds. IfOk c.names_among.result (λ _. RefusesNone (AreRefusedItems (map declaration_view ds)))) c.as_slice.ensures c.names_among.ensures.faultless

use Rattle.derive_decl.proofs.Rowless.{items_look_up, declarations_look_up}
use Rattle.derive_decl.proofs.law.rows_are_looked_up.Goals as goal

pub returns-clause-items : goal.returns-clause-items
returns-clause-items c = items_look_up

pub returns-clause-declarations : goal.returns-clause-declarations
returns-clause-declarations c = declarations_look_up

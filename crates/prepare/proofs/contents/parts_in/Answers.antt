use Rattle.std.proofs.Common.{arith}
use Rattle.std.proofs.lemmas.Grind.{common_steps}
use Rattle.prepare.proofs.contents.parts_in.Goals as goal

pub push_part-requires-clause-slices : goal.push_part-requires-clause-slices
push_part-requires-clause-slices c = grind (arith, common_steps)

pub loop-standing-preserved : goal.loop-standing-preserved
loop-standing-preserved c = grind (arith, common_steps)

pub returns-clause-items : goal.returns-clause-items
returns-clause-items c = grind (arith, common_steps)

pub returns-clause-impls : goal.returns-clause-impls
returns-clause-impls c = grind (arith, common_steps)

pub returns-clause-aliases : goal.returns-clause-aliases
returns-clause-aliases c = grind (arith, common_steps)

use Rattle.std.proofs.Common.{arith}
use Rattle.std.proofs.lemmas.Grind.{common_steps}
use Rattle.prepare.proofs.attributes.+tests.Goals as goal

pub ask_for_tests-asks_for_tests-requires : goal.ask_for_tests-asks_for_tests-requires
ask_for_tests-asks_for_tests-requires t c = grind (arith, common_steps)

pub ask_for_tests-returns-then-asks_for_tests : goal.ask_for_tests-returns-then-asks_for_tests
ask_for_tests-returns-then-asks_for_tests t c = grind (arith, common_steps)

pub ask_for_tests-trees-preserved : goal.ask_for_tests-trees-preserved
ask_for_tests-trees-preserved t c = grind (arith, common_steps)

pub ask_for_tests-returns : goal.ask_for_tests-returns
ask_for_tests-returns t c = grind (arith, common_steps)

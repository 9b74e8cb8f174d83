use Rattle.std.proofs.Common.{arith}
use Rattle.std.proofs.lemmas.Grind.{common_steps}
use Rattle.lexing.proofs.Laws.{view_group}
use Rattle.prepare.proofs.traits.+derives.Goals as goal

pub derives-group_derives-requires : goal.derives-group_derives-requires
derives-group_derives-requires t c = grind (arith, common_steps)

pub derives-returns-then-branch : goal.derives-returns-then-branch
derives-returns-then-branch t c = grind (arith, common_steps)

pub derives-trees-preserved : goal.derives-trees-preserved
derives-trees-preserved t c = grind (arith, common_steps)

pub derives-returns : goal.derives-returns
derives-returns t c = grind (arith, common_steps)

pub group_derives-returns-in_default : goal.group_derives-returns-in_default
group_derives-returns-in_default t c = grind (arith, common_steps)

pub group_derives-derives-requires : goal.group_derives-derives-requires
group_derives-derives-requires t c = grind (arith, common_steps, view_group)

pub group_derives-returns-then-is_word-2 : goal.group_derives-returns-then-is_word-2
group_derives-returns-then-is_word-2 t c = grind (arith, common_steps, view_group)

pub group_derives-returns-in_default-bracket : goal.group_derives-returns-in_default-bracket
group_derives-returns-in_default-bracket t c = grind (arith, common_steps, view_group)

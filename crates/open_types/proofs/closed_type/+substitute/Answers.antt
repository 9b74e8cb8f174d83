use Rattle.std.proofs.Common.{arith, sym, ◌∙◌}
use Rattle.std.proofs.lemmas.Grind.{common_steps}
use Rattle.open_types.proofs.OpenLists.{turn, turned, AreClosed_push}
use Rattle.open_types.proofs.closed_type.+substitute.Goals as goal

pub substitute_types-loop-ty-preserved : goal.substitute_types-loop-ty-preserved
substitute_types-loop-ty-preserved t c = record {
  left = λ h. let left = c.loop-ty.invariant.left h in grind (arith, common_steps);
  made = rw c.in_ok-push.ensures.ok (sym (turn _ c.loop-ty.made c.args.types.now _ _ _ c.loop-ty-test.true c.ty-item.is c.in_ok-substitute_type.ensures.value) ∙ c.loop-ty.invariant.made);
  closed = λ h. let left = c.loop-ty.invariant.left h in rw c.in_ok-push.ensures.ok (AreClosed_push _ _ (c.loop-ty.invariant.closed h) (c.in_ok-substitute_type.ensures.closed (grind (arith, common_steps))));
}

pub substitute_types-returns-clause-value : goal.substitute_types-returns-clause-value
substitute_types-returns-clause-value t c = sym (turned _ c.loop-ty.made c.args.types.now _ c.loop-ty-test.false) ∙ c.loop-ty.invariant.made

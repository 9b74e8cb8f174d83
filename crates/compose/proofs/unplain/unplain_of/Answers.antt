use Rattle.std.proofs.Common.{List, map, subst, inl, inr}
use Rattle.std.proofs.lemmas.Result.{err_from_is_err_and}
use Rattle.syntax.specs.Items.{declarations_view}
use Rattle.shapes.specs.declared.declaration.Declaration.{Declaration}
use Rattle.shapes.specs.Views.{declaration_view}
use Rattle.plainness.specs.Unplain.{AreUnplain}
use Rattle.compose.specs.Sets.{declarations_of}
use Rattle.compose.specs.Unplain.{AreDeclaredIn}
use Rattle.compose.proofs.Counts.{declared-many}
use Rattle.compose.proofs.Declared.{unplain-declared}
use Rattle.compose.proofs.unplain.unplain_of.Goals as goal

pub returns-in_err-terms-clause-refused : goal.returns-in_err-terms-clause-refused
returns-in_err-terms-clause-refused c =
    let p = err_from_is_err_and c.from_residual.result c.from_residual.ensures.1 in
    rw (p.1, p.2)
    (elim c.in_err-terms.ensures.refused [
      | inl memory ↦ inl memory
      | inr fault ↦ inr (inl fault)
    ])

pub returns-in_err-set-clause-refused : goal.returns-in_err-set-clause-refused
returns-in_err-set-clause-refused c =
    let p = err_from_is_err_and c.from_residual-in_err-set.result c.from_residual-in_err-set.ensures.1 in
    let settled = c.in_ok-terms.ensures.terms.settled in
    rw (p.1, p.2)
    (elim c.in_err-set.ensures.refused [
      | inl memory ↦ inl memory
      | inr unbounded ↦ inr (inr (settled.clear, (declarations_of c.in_ok-terms.terms, settled.resolves, unbounded)))
    ])

pub returns-clause-declared : goal.returns-clause-declared
returns-clause-declared c =
    let ds = declarations_view c.args.declarations.now in
    let ss = declarations_of c.in_ok-terms.terms in
    let us = c.in_ok-unplain_instances.field-0 in
    let settled = c.in_ok-terms.ensures.terms.settled in
    let instances = c.in_ok-set.ensures.instances.instances in
    let unplain : AreUnplain ss c.in_ok-set.set.reach us = subst (λ (xs : List Declaration). AreUnplain (map declaration_view xs) c.in_ok-set.set.reach us) c.as_slice-resolved.ensures c.in_ok-unplain_instances.ensures in
    subst (λ n. AreDeclaredIn n us) (declared-many ss ds settled.names) (unplain-declared c.reachable_fit.ensures ss settled.fitting c.in_ok-set.set.reach instances.reached us unplain)

use Rattle.std.proofs.Common.{map, inl, inr, sym, subst}
use Rattle.std.proofs.lemmas.Result.{err_from_is_err_and}
use Rattle.shapes.specs.Views.{declaration_view}
use Rattle.instances.specs.Lists.{instance_at}
use Rattle.compose.specs.Within.{AreShown}
use Rattle.compose.proofs.within.within_bounds.Goals as goal

pub returns-in_err-reach-clause-refused : goal.returns-in_err-reach-clause-refused
returns-in_err-reach-clause-refused c =
    let p = err_from_is_err_and c.from_residual.result c.from_residual.ensures.1 in
    rw (p.1, p.2)
    (elim c.in_err-reach.ensures.refused [
      | inl memory ↦ inl memory
      | inr beyond ↦ elim beyond [ inl crowded ↦ inr (inl crowded) | inr large ↦ inr (inr (inl large)) ]
    ])

pub returns-in_err-names-clause-refused : goal.returns-in_err-names-clause-refused
returns-in_err-names-clause-refused c =
    let p = err_from_is_err_and c.from_residual-in_err-names.result c.from_residual-in_err-names.ensures.1 in
    rw (p.1, p.2)
    (elim c.in_err-names.ensures.refused [
      | inl memory ↦ inl memory
      | inr clash ↦ inr (inr (inr (c.in_ok-reach.reach, c.in_ok-reach.ensures.reached, inl clash)))
    ])

pub returns-in_err-order-clause-refused : goal.returns-in_err-order-clause-refused
returns-in_err-order-clause-refused c =
    let p = err_from_is_err_and c.from_residual-in_err-order.result c.from_residual-in_err-order.ensures.1 in
    rw (p.1, p.2)
    (elim c.in_err-order.ensures.refused [
      | inl memory ↦ inl memory
      | inr beyond ↦ inr (inr (inr (c.in_ok-reach.reach, c.in_ok-reach.ensures.reached, inr (c.in_ok-names.ensures.differ, beyond))))
    ])

pub returns-clause-bounded : goal.returns-clause-bounded
returns-clause-bounded c = record {
  instances = c.in_ok-reach.reach;
  reached = c.in_ok-reach.ensures.reached;
  differ = c.in_ok-names.ensures.differ;
  shallow = c.in_ok-order.ensures.shallow;
  components = map (instance_at c.in_ok-reach.reach) c.in_ok-order.shown.components;
  shown = c.in_ok-order.ensures.shown.components;
  copied = c.in_ok-order.ensures.copied;
}

pub returns-clause-within : goal.returns-clause-within
returns-clause-within c =
    let ss = map declaration_view c.args.resolved.now in
    record {
      instances = c.in_ok-reach.ensures.reached.instances;
      differ = c.in_ok-names.ensures.differ;
      shallow = c.in_ok-order.ensures.shallow;
      names = c.in_ok-names.ensures.names;
      terms = c.in_ok-terms.ensures.terms;
      targets = c.in_ok-terms.ensures.targets;
      shown = subst (λ all. AreShown ss all c.in_ok-reach.reach c.in_ok-order.order c.in_ok-order.shown) (sym c.collects_all.ensures) c.in_ok-order.ensures.shown;
    }

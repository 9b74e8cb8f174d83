use Rattle.std.proofs.Common.{inl, inr}
use Rattle.std.proofs.lemmas.Bool.{and_from}
use Rattle.std.proofs.lemmas.Result.{IfOk-weaker, IfErr-weaker, err_from_is_err_and}
use Rattle.derive_decl.proofs.parameters.distinct_parameters.Goals as goal

pub returns-in_err-distinct_names-clause-refused : goal.returns-in_err-distinct_names-clause-refused
returns-in_err-distinct_names-clause-refused c =
    let p = err_from_is_err_and c.from_residual.result c.from_residual.ensures.1 in
    rw (p.1, p.2)
    (elim c.in_err-distinct_names.ensures.refused [ inl memory ↦ inl memory | inr twice ↦ inr (inl twice) ])

pub returns-clause-refused : goal.returns-clause-refused
returns-clause-refused c = IfErr-weaker c.distinct_lifetimes.result _ _ (λ e fault. elim fault [ inl memory ↦ inl memory | inr twice ↦ inr (inr twice) ]) c.distinct_lifetimes.ensures.refused

pub returns-clause-once : goal.returns-clause-once
returns-clause-once c = IfOk-weaker c.distinct_lifetimes.result _ _ (λ s once. and_from _ _ c.in_ok-distinct_names.ensures.once once) c.distinct_lifetimes.ensures.once

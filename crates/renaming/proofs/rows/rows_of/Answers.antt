use Rattle.std.proofs.Common.{◌≡◌, ◌∙◌, Result, Ok, Err, IfOk, List, subst, inl, inr}
use Rattle.diag.specs.Refusal.{RefusesNone}
use Rattle.texts.specs.Lists.{Somewhere}
use Rattle.syntax.specs.Items.{declarations_view}
use Rattle.serde_names.specs.declared.asked.Asked.{Asked}
use Rattle.serde_names.specs.Asked.{asked_of}
use Rattle.renaming.specs.Refusals.{IsNameless}
use Rattle.renaming.proofs.rows.rows_of.Goals as goal

weaker : {T E P Q : Type 0} (r : Result T E) → (P → Q) → IfOk r (λ _. P) → IfOk r (λ _. Q)
weaker (Ok x) h p = h p
weaker (Err e) h p = p

pub returns-clause-faultless : goal.returns-clause-faultless
returns-clause-faultless c =
    let ds = declarations_view c.args.declarations.now in
    let names : c.as_slice.result.now ≡ asked_of ds = c.as_slice.ensures ∙ c.in_ok-names.ensures.names in
    weaker {P = RefusesNone (λ e. Somewhere (λ a. IsNameless a e) (asked_of ds))} c.rows_of_names.result
    (λ none e fault. elim fault [
      | inl refused ↦ c.in_ok-names.ensures.faultless e refused
      | inr nameless ↦ none e nameless
    ])
    (subst (λ (xs : List Asked). IfOk c.rows_of_names.result (λ _. RefusesNone (λ e. Somewhere (λ a. IsNameless a e) xs))) names c.rows_of_names.ensures.faultless)

use Rattle.std.proofs.Common.{Result, Ok, Err, OnOk, map, sym, subst, inl, inr}
use Rattle.diag.specs.Refusal.{RefusesNone}
use Rattle.attributes.specs.Attributes.{attribute_view, serde_items}
use Rattle.syntax.specs.Items.{variant_view, body_view}
use Rattle.renaming.specs.Refusals.{IsRefusedTold, IsRefusedToldBy, IsRefusedBody}
use Rattle.renaming.proofs.ask.push_body.Goals as goal

weaker : {T E P Q : Type 0} (r : Result T E) → (P → Q) → OnOk r P → OnOk r Q
weaker (Ok x) h p = h p
weaker (Err e) h p = p

pub returns-in_ok-rules-in-Enum-clause-faultless : goal.returns-in_ok-rules-in-Enum-clause-faultless
returns-in_ok-rules-in-Enum-clause-faultless c =
    let items = serde_items (map attribute_view c.args.attributes.now) in
    let rules = c.in_ok-rules-in-Enum.rules in
    subst (λ b. OnOk c.push_told_by.result (RefusesNone (IsRefusedBody items (body_view b)))) (sym c.in-Enum.is)
    (weaker {P = RefusesNone (IsRefusedToldBy rules.enum_repr (map variant_view c.as_slice.result.now))} c.push_told_by.result
    (λ none e fault. elim fault [
      | inl refused ↦ c.in_ok-rules-in-Enum.ensures.allowed e refused
      | inr told ↦ none e (subst (λ vs. IsRefusedToldBy rules.enum_repr (map variant_view vs) e) (sym c.as_slice.ensures)
          (subst (λ r. IsRefusedTold r (map variant_view c.in-Enum.variants) e) c.in_ok-rules-in-Enum.ensures.read.enum_repr told))
    ])
    c.push_told_by.ensures.faultless)

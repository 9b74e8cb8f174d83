use Rattle.std.proofs.Common.{◌++◌, inl, inr, List, map, take, subst}
use Rattle.std.proofs.lemmas.List.{take_all}
use Rattle.std.proofs.lemmas.Result.{err_from_is_err_and}
use Rattle.attributes.specs.Attributes.{attribute_view, serde_items}
use Rattle.attributes.specs.declared.attribute.Attribute.{Attribute}
use Rattle.attributes.specs.declared.serde_item.SerdeItem.{SerdeItem}
use Rattle.serde_rules.specs.Container.{AreContainerRules, IsContainerRefusal}
use Rattle.serde_rules.proofs.ContainerLaws.{refuses_all, rules_are_not_refused}
use Rattle.serde_rules.proofs.container.parse_container.Goals as goal

pub returns-in_err-rules-clause-refused : goal.returns-in_err-rules-clause-refused
returns-in_err-rules-clause-refused c =
    let p = err_from_is_err_and c.from_residual.result c.from_residual.ensures.1 in
    let e = c.in_err-rules.field-0.0 in
    let before = serde_items (map attribute_view (take c.loop-attribute.attribute-index c.args.attributes.now)) in
    rw (p.1, p.2)
    (elim (c.in_err-rules.ensures.refused before c.loop-attribute.invariant) [
      | inl memory ↦ inl memory
      | inr refused ↦ inr (refuses_all c.args.attributes.now c.loop-attribute.attribute-index c.attribute-item.result e c.loop-attribute-test.true c.attribute-item.is
          (subst (λ (items : List SerdeItem). IsContainerRefusal (before ++ items) e) c.as_slice.ensures refused))
    ])

pub returns-clause-allowed : goal.returns-clause-allowed
returns-clause-allowed c = λ e.
    let rules = c.loop-attribute.rules in
    rules_are_not_refused (serde_items (map attribute_view c.args.attributes.now)) rules e
    (subst (λ (attributes : List Attribute). AreContainerRules (serde_items (map attribute_view attributes)) rules)
    (take_all c.loop-attribute.attribute-index c.args.attributes.now c.loop-attribute-test.false) c.loop-attribute.invariant)

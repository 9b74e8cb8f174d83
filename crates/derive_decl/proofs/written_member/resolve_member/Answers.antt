use Rattle.std.proofs.Common.{◌≡◌, ◌∙◌, ◌∷◌, ◌&&◌, [], List, true, not, cond, map, ap, sym, subst, inl, inr}
use Rattle.std.proofs.lemmas.Bool.{and_from}
use Rattle.std.proofs.lemmas.Result.{err_from_is_err_and}
use Rattle.attributes.specs.declared.attribute.Attribute.{Attribute}
use Rattle.attributes.specs.Attributes.{attribute_view, serde_items}
use Rattle.serde_rules.specs.declared.value.SerdeValue.{SerdeValue}
use Rattle.serde_rules.specs.Value.{value_rules}
use Rattle.syntax.specs.Items.{field_view}
use Rattle.texts.specs.Lists.{Somewhere}
use Rattle.serde_names.specs.Kept.{is_own}
use Rattle.derive_decl.specs.Fields.{rules_view}
use Rattle.derive_decl.specs.Faults.{IsFaultyMember}
use Rattle.derive_decl.specs.Views.{known}
use Rattle.derive_decl.proofs.written_member.resolve_member.Goals as goal

pub returns-in_err-kept_member-clause-refused : goal.returns-in_err-kept_member-clause-refused
returns-in_err-kept_member-clause-refused c =
    let p = err_from_is_err_and c.from_residual-in_err-kept_member.result c.from_residual-in_err-kept_member.ensures.1 in
    let f = field_view c.args.field.now in
    let e = c.in_err-kept_member.field-0.0 in
    let own : is_own f ≡ true =
    sym (ap (λ (value : SerdeValue). not value.skip && not value.flatten) (c.in_ok-value.ensures ∙ ap (λ (attributes : List Attribute). value_rules (serde_items (map attribute_view attributes))) c.as_slice.ensures)) ∙ and_from (not c.in_ok-value.value.skip) (not c.in_ok-value.value.flatten) (ap not c.if-value.false) (ap not c.if-value-2.false) in
    rw (p.1, p.2)
    (elim c.in_err-kept_member.ensures.refused [
      | inl memory ↦ inl memory
      | inr fault ↦ inr (subst (λ b. Somewhere (λ g. IsFaultyMember (known c.args.container.now) (rules_view c.args.rules.now) g e) (cond b (f ∷ []) [])) (sym own) (inl fault))
    ])

use Rattle.std.proofs.Common.{map, None, cond, ap, sym, ◌∙◌, subst, inl, inr}
use Rattle.std.proofs.lemmas.Result.{err_from_is_err_and}
use Rattle.attributes.specs.Attributes.{attribute_view, serde_items}
use Rattle.syntax.specs.Items.{field_view}
use Rattle.shapes.specs.Views.{member_view, beside_view}
use Rattle.derive_decl.specs.Fields.{field_rules, rules_view}
use Rattle.derive_decl.specs.Resolved.{flattened_fields, members_of, named_form}
use Rattle.derive_decl.specs.Faults.{AreFaultyMembers}
use Rattle.derive_decl.specs.Views.{known}
use Rattle.derive_decl.proofs.NamedForms.{formed}
use Rattle.derive_decl.proofs.Rules.{rules_are, rules_allowed}
use Rattle.derive_decl.proofs.named_fields.named_form.Goals as goal

pub returns-in_err-rules-clause-refused : goal.returns-in_err-rules-clause-refused
returns-in_err-rules-clause-refused c =
    let p = err_from_is_err_and c.from_residual.result c.from_residual.ensures.1 in
    rw (p.1, p.2)
    (elim c.in_err-rules.ensures.refused [
      | inl memory ↦ inl memory
      | inr fault ↦ inr (inl fault)
    ])

pub returns-in_err-members-clause-refused : goal.returns-in_err-members-clause-refused
returns-in_err-members-clause-refused c =
    let p = err_from_is_err_and c.from_residual-in_err-members.result c.from_residual-in_err-members.ensures.1 in
    let root = c.args.root.now in
    let same = rules_are (serde_items (map attribute_view root.attributes.now)) c.in_ok-rules.rules c.in_ok-rules.ensures.read in
    rw (p.1, p.2)
    (elim c.in_err-members.ensures.refused [
      | inl memory ↦ inl memory
      | inr fault ↦ inr (inr (inl (subst (λ rules. AreFaultyMembers (known root.container.now) rules (map field_view c.args.fields.now) c.in_err-members.field-0.0) same fault)))
    ])

pub returns-clause-form : goal.returns-clause-form
returns-clause-form c =
    let root = c.args.root.now in
    let items = serde_items (map attribute_view root.attributes.now) in
    let around = known root.container.now in
    let fs = map field_view c.args.fields.now in
    let rules = c.in_ok-rules.rules in
    ap (λ b. cond b (named_form around (field_rules items) fs) None) (rules_allowed items rules c.in_ok-rules.ensures.read)
    ∙ ap (λ r. named_form around r fs) (sym (rules_are items rules c.in_ok-rules.ensures.read))
    ∙ formed rules.deny_unknown_fields (flattened_fields around fs) (members_of around (rules_view rules) fs) (beside_view rules.deny_unknown_fields c.in_ok-beside.beside) (map member_view c.in_ok-members.members)
    (c.in_ok-beside.ensures.beside rules.deny_unknown_fields) c.in_ok-members.ensures.members

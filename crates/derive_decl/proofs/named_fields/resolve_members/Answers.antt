use Rattle.std.proofs.Common.{◌≡◌, ◌∙◌, ◌<◌, [], length, map, take, ap, sym, subst, arith, inl, inr, Some}
use Rattle.std.proofs.lemmas.Grind.{common_steps}
use Rattle.std.proofs.lemmas.List.{map-append}
use Rattle.std.proofs.lemmas.Result.{err_from_is_err_and}
use Rattle.std.specs.List.{cons_option}
use Rattle.syntax.specs.Items.{field_view}
use Rattle.syntax.specs.Named.{HasName}
use Rattle.derive_decl.specs.declared.written_member.WrittenMember.{WrittenMember}
use Rattle.serde_names.specs.Kept.{is_own, own}
use Rattle.derive_decl.specs.Fields.{rules_view, written_ident, written_idents}
use Rattle.derive_decl.specs.Resolved.{all_of, member_of}
use Rattle.derive_decl.specs.Faults.{IsFaultyMember}
use Rattle.derive_decl.specs.Views.{known, written_member_view}
use Rattle.derive_decl.proofs.Growing.{fact_at, all_kept_more, some_kept_more, somewhere_kept}
use Rattle.derive_decl.proofs.named_fields.resolve_members.Goals as goal

pub resolve_member-requires : goal.resolve_member-requires
resolve_member-requires c =
    let lt : c.loop-field.field-index < length c.args.fields.now = omega arith in
    fact_at HasName field_view c.args.fields.now c.loop-field.field-index c.field-item.result lt c.field-item.is c.requires

pub returns-in_err-member-clause-refused : goal.returns-in_err-member-clause-refused
returns-in_err-member-clause-refused c =
    let p = err_from_is_err_and c.from_residual.result c.from_residual.ensures.1 in
    let lt : c.loop-field.field-index < length c.args.fields.now = omega arith in
    rw (p.1, p.2)
    (elim c.in_err-member.ensures.refused [
      | inl memory ↦ inl memory
      | inr fault ↦ inr (somewhere_kept field_view is_own (λ f. IsFaultyMember (known c.args.container.now) (rules_view c.args.rules.now) f c.in_err-member.field-0.0) c.args.fields.now c.loop-field.field-index c.field-item.result lt c.field-item.is fault)
    ])

pub loop-field-preserved : goal.loop-field-preserved
loop-field-preserved c =
    let fields = c.args.fields.now in
    let at = c.loop-field.field-index in
    let field = c.field-item.result in
    let lt : at < length fields = omega arith in
    let members = c.loop-field.members.items in
    let more = cons_option c.in_ok-member.member [] in
    let around = known c.args.container.now in
    let rules = rules_view c.args.rules.now in
    rw c.in_ok-push_some.ensures (
      all_kept_more field_view is_own (member_of around rules) fields at field (map written_member_view members) (map written_member_view more) lt c.field-item.is c.loop-field.invariant.0 c.in_ok-member.ensures.member ∙ ap Some (sym (map-append written_member_view members more)),
      some_kept_more field_view is_own (written_ident around.rows rules.rule) fields at field (map (λ m. m.ident) members) (map (λ m. m.ident) more) lt c.field-item.is c.loop-field.invariant.1 c.in_ok-member.ensures.ident ∙ sym (map-append (λ (m : WrittenMember). m.ident) members more),
    )

pub returns-clause-members : goal.returns-clause-members
returns-clause-members c =
    let whole : take c.loop-field.field-index c.args.fields.now ≡ c.args.fields.now = grind (arith, common_steps) in
    subst (λ fs. all_of (member_of (known c.args.container.now) (rules_view c.args.rules.now)) (own (map field_view fs)) ≡ Some (map written_member_view c.loop-field.members.items)) whole c.loop-field.invariant.0

pub returns-clause-idents : goal.returns-clause-idents
returns-clause-idents c =
    let whole : take c.loop-field.field-index c.args.fields.now ≡ c.args.fields.now = grind (arith, common_steps) in
    subst (λ fs. written_idents c.args.container.now.config.now.renames c.args.rules.now.rename_all (own (map field_view fs)) ≡ map (λ m. m.ident) c.loop-field.members.items) whole c.loop-field.invariant.1

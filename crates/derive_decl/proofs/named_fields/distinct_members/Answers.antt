use Rattle.std.proofs.Common.{◌≡◌, List, map, Some, ap, sym, ◌∙◌, subst, inl, inr}
use Rattle.std.proofs.lemmas.Result.{err_from_is_err_and}
use Rattle.texts.specs.Names.{IsDistinct}
use Rattle.syntax.specs.Items.{field_view}
use Rattle.shapes.specs.Declarations.{member_names}
use Rattle.scopes.specs.Names.{texts, IsGivenTwice}
use Rattle.derive_decl.specs.declared.written_member.WrittenMember.{WrittenMember}
use Rattle.serde_names.specs.Kept.{own}
use Rattle.derive_decl.specs.Fields.{written_idents}
use Rattle.derive_decl.specs.Resolved.{members_are_distinct}
use Rattle.derive_decl.specs.Views.{written_member_view}
use Rattle.derive_decl.proofs.Growing.{member_names-are}
use Rattle.derive_decl.proofs.Values.{passes, are_distinct_from}
use Rattle.derive_decl.proofs.named_fields.distinct_members.Goals as goal

pub returns-in_err-places_of-clause-refused : goal.returns-in_err-places_of-clause-refused
returns-in_err-places_of-clause-refused c =
    let p = err_from_is_err_and c.from_residual-in_err-places_of.result c.from_residual-in_err-places_of.ensures.1 in
    let e = c.in_err-places_of.field-0.0 in
    let idents : map (λ (m : WrittenMember). m.ident) c.as_slice.result.now ≡ written_idents c.args.container.now.config.now.renames c.args.rules.now.rename_all (own (map field_view c.args.fields.now)) =
    ap (map (λ (m : WrittenMember). m.ident)) c.as_slice.ensures.value ∙ sym c.in_ok-members.ensures.idents in
    rw (p.1, p.2)
    (elim c.in_err-places_of.ensures.refused [
      | inl memory ↦ inl memory
      | inr twice ↦ inr (inr (subst (λ xs. IsGivenTwice xs e) idents twice))
    ])

pub returns-clause-members : goal.returns-clause-members
returns-clause-members c =
    let ms = c.in_ok-members.members.items in
    let names : texts (map (λ (m : WrittenMember). m.ident) c.as_slice.result.now) ≡ member_names (map written_member_view ms) =
    ap (λ (xs : List WrittenMember). texts (map (λ (m : WrittenMember). m.ident) xs)) c.as_slice.ensures.value ∙ sym (member_names-are ms) in
    passes members_are_distinct _ (map written_member_view ms) c.in_ok-members.ensures.members (are_distinct_from (member_names (map written_member_view ms)) (subst IsDistinct names c.in_ok-places_of.ensures.distinct))
    ∙ ap Some (sym c.in_ok-members_of.ensures)

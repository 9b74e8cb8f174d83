use Rattle.std.proofs.Common.{◌≡◌, ◌<◌, length, map, take, subst, arith, inl, inr, Some}
use Rattle.std.proofs.lemmas.Grind.{common_steps}
use Rattle.std.proofs.lemmas.Result.{err_from_is_err_and}
use Rattle.open_types.specs.Open.{open_view}
use Rattle.resolving.specs.Resolved.{resolved_type}
use Rattle.syntax.specs.Items.{FieldItem, field_view}
use Rattle.derive_decl.specs.Resolved.{all_of}
use Rattle.derive_decl.specs.Faults.{IsFaultyType}
use Rattle.derive_decl.specs.Views.{known}
use Rattle.derive_decl.proofs.Growing.{all_more, somewhere}
use Rattle.derive_decl.proofs.unnamed_fields.resolve_types.Goals as goal

pub returns-in_err-resolve-clause-refused : goal.returns-in_err-resolve-clause-refused
returns-in_err-resolve-clause-refused c =
    let p = err_from_is_err_and c.from_residual.result c.from_residual.ensures.1 in
    let lt : c.loop-field.field-index < length c.args.fields.now = omega arith in
    rw (p.1, p.2)
    (elim c.in_err-resolve.ensures.refused [
      | inl memory ↦ inl memory
      | inr fault ↦ inr (somewhere (λ f. IsFaultyType (known c.args.container.now) f c.in_err-resolve.field-0.0) field_view c.args.fields.now c.loop-field.field-index c.field-item.result lt c.field-item.is fault)
    ])

pub loop-field-preserved : goal.loop-field-preserved
loop-field-preserved c =
    let fields = c.args.fields.now in
    let at = c.loop-field.field-index in
    let field = c.field-item.result in
    let lt : at < length fields = omega arith in
    rw c.in_ok-push.ensures.ok (all_more (λ (f : FieldItem). resolved_type (known c.args.container.now).known f.ty) field_view open_view fields at field c.loop-field.types _ lt c.field-item.is c.loop-field.invariant c.in_ok-resolve.ensures.resolved)

pub returns-clause-types : goal.returns-clause-types
returns-clause-types c =
    let whole : take c.loop-field.field-index c.args.fields.now ≡ c.args.fields.now = grind (arith, common_steps) in
    subst (λ fs. all_of (λ (f : FieldItem). resolved_type (known c.args.container.now).known f.ty) (map field_view fs) ≡ Some (map open_view c.loop-field.types)) whole c.loop-field.invariant

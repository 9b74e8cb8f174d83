use Rattle.std.proofs.Common.{◌≡◌, ◌∙◌, ◌<◌, [], length, map, take, ap, sym, subst, arith, inl, inr, Some}
use Rattle.std.proofs.lemmas.Grind.{common_steps}
use Rattle.std.proofs.lemmas.List.{map-append}
use Rattle.std.proofs.lemmas.Result.{err_from_is_err_and}
use Rattle.std.specs.List.{cons_option}
use Rattle.syntax.specs.Items.{field_view}
use Rattle.serde_names.specs.Kept.{is_flattened, flattened}
use Rattle.derive_decl.specs.Resolved.{all_of, typed_of}
use Rattle.derive_decl.specs.Faults.{IsFaultyType}
use Rattle.derive_decl.specs.Views.{known, typed_view}
use Rattle.derive_decl.proofs.Growing.{all_kept_more, somewhere_kept}
use Rattle.derive_decl.proofs.flattened.resolve_fields.Goals as goal

pub returns-in_err-found-clause-refused : goal.returns-in_err-found-clause-refused
returns-in_err-found-clause-refused c =
    let p = err_from_is_err_and c.from_residual.result c.from_residual.ensures.1 in
    let lt : c.loop-field.field-index < length c.args.fields.now = omega arith in
    rw (p.1, p.2)
    (elim c.in_err-found.ensures.refused [
      | inl memory ↦ inl memory
      | inr fault ↦ inr (somewhere_kept field_view is_flattened (λ f. IsFaultyType (known c.args.container.now) f c.in_err-found.field-0.0) c.args.fields.now c.loop-field.field-index c.field-item.result lt c.field-item.is fault)
    ])

pub loop-field-preserved : goal.loop-field-preserved
loop-field-preserved c =
    let fields = c.args.fields.now in
    let at = c.loop-field.field-index in
    let lt : at < length fields = omega arith in
    let typed = c.loop-field.typed.items in
    let more = cons_option c.in_ok-found.found [] in
    rw c.in_ok-push_some.ensures
    (all_kept_more field_view is_flattened (typed_of (known c.args.container.now)) fields at c.field-item.result (map typed_view typed) (map typed_view more) lt c.field-item.is c.loop-field.invariant c.in_ok-found.ensures.typed
    ∙ ap Some (sym (map-append typed_view typed more)))

pub returns-clause-typed : goal.returns-clause-typed
returns-clause-typed c =
    let whole : take c.loop-field.field-index c.args.fields.now ≡ c.args.fields.now = grind (arith, common_steps) in
    subst (λ fs. all_of (typed_of (known c.args.container.now)) (flattened (map field_view fs)) ≡ Some (map typed_view c.loop-field.typed.items)) whole c.loop-field.invariant

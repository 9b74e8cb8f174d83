use Rattle.std.proofs.Common.{◌≡◌, true, inl, inr, subst}
use Rattle.std.proofs.lemmas.Result.{err_from_is_err_and}
use Rattle.derive_decl.specs.Faults.{AreFaultyParameters}
use Rattle.derive_decl.specs.Lifetimes.{parameters_are_distinct}
use Rattle.shapes.specs.Views.{declaration_view}
use Rattle.derive_decl.specs.Views.{known}
use Rattle.declaration_schemas.specs.Schemas.{item_of}
use Rattle.declaration_schemas.proofs.Once.{resolved_once}
use Rattle.declaration_schemas.proofs.schema.Schema.resolve.Goals as goal

pub returns-in_err-distinct_parameters-clause-refused : goal.returns-in_err-distinct_parameters-clause-refused
returns-in_err-distinct_parameters-clause-refused c =
    let p = err_from_is_err_and c.from_residual.result c.from_residual.ensures.1 in
    rw (p.1, p.2)
    (elim c.in_err-distinct_parameters.ensures.refused [
      | inl memory ↦ inl memory
      | inr twice ↦ inr (inl (subst (λ ps. AreFaultyParameters ps c.in_err-distinct_parameters.field-0.0) c.generics_of.ensures twice))
    ])

pub returns-clause-resolved : goal.returns-clause-resolved
returns-clause-resolved c =
    let schema = c.args.self.now in
    let once : parameters_are_distinct (item_of schema).generics ≡ true = subst (λ ps. parameters_are_distinct ps ≡ true) c.generics_of.ensures c.in_ok-distinct_parameters.ensures.once in
    resolved_once declaration_view c.resolve_declaration.result (known schema.container.now) (item_of schema) once c.resolve_declaration.ensures.resolved

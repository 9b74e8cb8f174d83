use Rattle.std.proofs.Common.{inl, inr}
use Rattle.std.proofs.lemmas.Result.{IfErr-weaker, err_from_is_err_and}
use Rattle.syntax.specs.Items.{body_view}
use Rattle.shapes.specs.Views.{body_view as resolved_view}
use Rattle.derive_decl.specs.Views.{attributes_of, known}
use Rattle.derive_decl.proofs.BodyLaws.{derivable_body}
use Rattle.derive_decl.proofs.bodies.resolve_body.Goals as goal

pub returns-in_err-derivable-clause-refused : goal.returns-in_err-derivable-clause-refused
returns-in_err-derivable-clause-refused c =
    let p = err_from_is_err_and c.from_residual.result c.from_residual.ensures.1 in
    rw (p.1, p.2)
    (elim c.in_err-derivable.ensures.refused [
      | inl memory ↦ inl memory
      | inr other ↦ inr (inl other)
    ])

pub returns-clause-refused : goal.returns-clause-refused
returns-clause-refused c =
    IfErr-weaker c.body_of.result _ _ (λ e fault. elim fault [ inl memory ↦ inl memory | inr h ↦ inr (inr (c.in_ok-derivable.ensures.derivable, h)) ])
    c.body_of.ensures.refused

pub returns-clause-body : goal.returns-clause-body
returns-clause-body c =
    let root = c.args.root.now in
    derivable_body resolved_view c.body_of.result (known root.container.now) (attributes_of root) (body_view c.args.body.now) c.in_ok-derivable.ensures.derivable c.body_of.ensures.body

use Rattle.std.proofs.Common.{subst, inl, inr}
use Rattle.std.proofs.lemmas.Result.{err_from_is_err_and}
use Rattle.diag.specs.declared.rename_row.RenamePlace.TheVariants.{Field}
use Rattle.serde_names.specs.Names.{IsUnwritten}
use Rattle.derive_decl.proofs.written_member.kept_member.Goals as goal

pub returns-in_err-name-clause-refused : goal.returns-in_err-name-clause-refused
returns-in_err-name-clause-refused c =
    let p = err_from_is_err_and c.from_residual.result c.from_residual.ensures.1 in
    let rows = c.args.container.now.config.now.renames in
    let rule = c.args.rules.now.rename_all in
    let e = c.in_err-name.field-0.0 in
    rw (p.1, p.2)
    (elim c.in_err-name.ensures.refused [
      | inl memory ↦ inl memory
      | inr fault ↦ inr (inr (
        c.in-Some.ident,
        c.in-Some.is,
        subst (λ value. IsUnwritten Field rows rule value c.in-Some.ident e) c.requires.value
            (subst (λ table. IsUnwritten Field table rule c.args.value.now c.in-Some.ident e) c.renames.ensures fault),
      ))
    ])

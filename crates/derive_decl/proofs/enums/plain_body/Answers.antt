use Rattle.std.proofs.Common.{map}
use Rattle.std.proofs.lemmas.Result.{err_from_is_err_and}
use Rattle.syntax.specs.Items.{variant_view}
use Rattle.derive_decl.specs.Resolved.{units_of}
use Rattle.derive_decl.specs.Faults.{AreUnnamed}
use Rattle.derive_decl.specs.Views.{items_of, known}
use Rattle.derive_decl.proofs.EnumLaws.{untold, body_by, refused_by}
use Rattle.derive_decl.proofs.enums.plain_body.Goals as goal

pub returns-in_err-rules-clause-refused : goal.returns-in_err-rules-clause-refused
returns-in_err-rules-clause-refused c =
    let root = c.args.root.now in
    let p = err_from_is_err_and c.from_residual.result c.from_residual.ensures.1 in
    rw (p.1, p.2) (untold (items_of root) root.ident.now (λ rule tagging. AreUnnamed (known root.container.now).rows rule tagging (map variant_view c.args.variants.now)) _ c.in_err-rules.ensures.refused)

pub returns-clause-refused : goal.returns-clause-refused
returns-clause-refused c =
    let root = c.args.root.now in
    let told = c.in_ok-rules.ensures in
    refused_by (items_of root) _ _ told.rule told.tagging c.units_body.result root.ident.now (λ rule tagging. AreUnnamed (known root.container.now).rows rule tagging (map variant_view c.args.variants.now)) c.units_body.ensures.refused

pub returns-clause-body : goal.returns-clause-body
returns-clause-body c =
    let root = c.args.root.now in
    let told = c.in_ok-rules.ensures in
    body_by (items_of root) _ _ told.rule told.tagging c.units_body.result (λ rule. units_of (known root.container.now) rule (map variant_view c.args.variants.now)) told.allowed c.units_body.ensures.units

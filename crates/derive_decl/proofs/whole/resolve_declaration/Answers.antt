use Rattle.std.proofs.Common.{◌∙◌, Some, option_map, ap, sym}
use Rattle.derive_decl.specs.Resolved.{declaration_from}
use Rattle.derive_decl.specs.Views.{attributes_of, known}
use Rattle.derive_decl.proofs.whole.resolve_declaration.Goals as goal

pub returns-clause-resolved : goal.returns-clause-resolved
returns-clause-resolved c =
    let root = c.args.root.now in
    ap (option_map (declaration_from (known root.container.now) (attributes_of root) root.ident.now)) c.in_ok-body.ensures.body ∙ ap Some (sym c.in_ok-with_body.ensures)

use Rattle.std.proofs.Common.{List, map, sym, subst}
use Rattle.diag.specs.Refusal.{Refuses}
use Rattle.syntax.specs.declared.item.Variant.{Variant}
use Rattle.syntax.specs.Items.{body_view, variant_view}
use Rattle.derive_decl.specs.Faults.{IsFaultyEnum, IsFaultyBody}
use Rattle.derive_decl.specs.Views.{known, items_of}
use Rattle.derive_decl.proofs.bodies.body_of.Goals as goal

pub returns-in-Enum-clause-refused : goal.returns-in-Enum-clause-refused
returns-in-Enum-clause-refused c =
    let root = c.args.root.now in
    subst (λ b. Refuses c.enum_body.result (IsFaultyBody (known root.container.now) (items_of root) root.ident.now (body_view b))) (sym c.in-Enum.is)
    (subst (λ (vs : List Variant). Refuses c.enum_body.result (IsFaultyEnum (known root.container.now) (items_of root) root.ident.now (map variant_view vs))) c.as_slice.ensures c.enum_body.ensures.refused)

use Rattle.std.proofs.Common.{◌≡◌, List, map, IfOk, Some, sym, subst}
use Rattle.diag.specs.Refusal.{Refuses}
use Rattle.syntax.specs.declared.item.Field.{Field}
use Rattle.syntax.specs.Items.{field_view, fields_view, unnamed}
use Rattle.shapes.specs.Views.{form_view}
use Rattle.derive_decl.specs.Resolved.{form_of}
use Rattle.derive_decl.specs.Faults.{AreFaultyFields, AreFaultyNamed}
use Rattle.derive_decl.specs.Views.{known, items_of}
use Rattle.derive_decl.proofs.fields.form_of.Goals as goal

pub returns-in-Named-clause-refused : goal.returns-in-Named-clause-refused
returns-in-Named-clause-refused c =
    let root = c.args.root.now in
    subst (λ fs. Refuses c.named_form.result (AreFaultyFields (known root.container.now) (items_of root) root.ident.now (fields_view fs))) (sym c.in-Named.is)
    (subst (λ (fs : List Field). Refuses c.named_form.result (AreFaultyNamed (known root.container.now) (items_of root) root.ident.now (map field_view fs))) c.as_slice.ensures c.named_form.ensures.refused)

pub returns-in-Unnamed-clause-form : goal.returns-in-Unnamed-clause-form
returns-in-Unnamed-clause-form c =
    let root = c.args.root.now in
    let items = items_of root in
    subst (λ fs. IfOk c.unnamed_form.result (λ form. form_of (known root.container.now) items (fields_view fs) ≡ Some (form_view form))) (sym c.in-Unnamed.is)
    (subst (λ (fs : List Field). IfOk c.unnamed_form.result (λ form. form_of (known root.container.now) items (unnamed (map field_view fs)) ≡ Some (form_view form))) c.as_slice-in-Unnamed.ensures
    c.unnamed_form.ensures.form)

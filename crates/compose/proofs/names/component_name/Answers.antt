use Rattle.std.proofs.Common.{◌∙◌, List, map, ap}
use Rattle.open_types.specs.Open.{open_view}
use Rattle.open_types.specs.TypeNames.{type_name}
use Rattle.scopes.specs.Names.{declared_idents}
use Rattle.scopes.specs.Texts.{name_at}
use Rattle.syntax.specs.Items.{declarations_view}
use Rattle.shapes.specs.InstanceNames.{instance_name}
use Rattle.shapes.specs.declared.declaration.Declaration.{Declaration}
use Rattle.shapes.specs.Views.{declaration_view}
use Rattle.compose.proofs.NamedAlone.{same-names}
use Rattle.compose.proofs.names.component_name.Goals as goal

pub returns-clause-named : goal.returns-clause-named
returns-clause-named c =
    let ds = declarations_view c.args.declarations.now in
    c.in_ok-name.ensures
    ∙ ap (λ (xs : List Declaration). instance_name (map declaration_view xs) (open_view c.as_open.result.now)) c.as_slice.ensures
    ∙ same-names (map declaration_view c.in_ok-resolved.resolved) ds c.in_ok-resolved.ensures (open_view c.as_open.result.now)
    ∙ ap (λ t. type_name (name_at (declared_idents ds)) (open_view t)) c.as_open.ensures.same

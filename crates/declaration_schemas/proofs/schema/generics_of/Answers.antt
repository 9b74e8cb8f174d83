use Rattle.std.proofs.Common.{◌≡◌, ◌∙◌, ◌<◌, List, length, get_or, ap, sym, subst}
use Rattle.std.proofs.lemmas.List.{length-map}
use Rattle.syntax.specs.declared.item.Declaration.{Declaration}
use Rattle.syntax.specs.Items.{declaration_view}
use Rattle.scopes.proofs.Laws.{generics_are}
use Rattle.declaration_schemas.proofs.schema.generics_of.Goals as goal

pub returns : goal.returns
returns c =
    let scope = c.args.container.now.scope.now in
    let items = scope.places.now.declarations.now.items in
    let d = c.index-as_slice-scope.result in
    let lt : scope.owner < length items = subst (λ m. scope.owner < m) (length-map items declaration_view) scope.owned in
    let is : d ≡ get_or items scope.owner d = c.index-as_slice-scope.is ∙ ap (λ (xs : List Declaration). get_or xs scope.owner d) c.as_slice.ensures in
    sym (generics_are items scope.owner d lt is)

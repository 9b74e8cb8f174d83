use Rattle.std.proofs.Common.{◌∙◌, List, map, take, get_or, ap, sym}
use Rattle.std.proofs.lemmas.List.{map_more, map_push}
use Rattle.scopes.specs.Names.{declared_names}
use Rattle.syntax.specs.declared.item.Declaration.{Declaration}
use Rattle.syntax.specs.Items.{declaration_view}
use Rattle.shapes.specs.Declarations.{declaration_names}
use Rattle.shapes.specs.declared.declaration.Declaration.{Declaration as Resolved}
use Rattle.shapes.specs.Views.{declaration_view as resolved_view}
use Rattle.compose.proofs.NamedAlone.{names-more}
use Rattle.compose.proofs.names.by_name.Goals as goal

pub loop-declaration-preserved : goal.loop-declaration-preserved
loop-declaration-preserved c =
    let items = c.as_slice-declaration-items.result.now in
    let i = c.loop-declaration.declaration-index in
    let before = c.loop-declaration.resolved in
    let s = c.in_ok-named.field-0 in
    let x = c.declaration-item.result in
    let named = c.in_ok-named.ensures ∙ ap (λ (d : Declaration). d.ident.text) c.declaration-item.is in
    ap (λ (xs : List Resolved). declaration_names (map resolved_view xs)) c.in_ok-push.ensures.ok
    ∙ ap declaration_names (map_push resolved_view before s)
    ∙ names-more (map resolved_view before) (resolved_view s) (map declaration_view (take i items)) (declaration_view (get_or items i x)) c.loop-declaration.invariant named
    ∙ ap declared_names (sym (map_more declaration_view items i x c.loop-declaration-test.true))

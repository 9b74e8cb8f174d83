use Rattle.std.proofs.Common.{◌≡◌, ◌∙◌, List, [], ◌∷◌, map, take, refl, ap, arith}
use Rattle.std.proofs.lemmas.List.{take_all}
use Rattle.written_types.specs.declared.written.Ident.{Ident}
use Rattle.syntax.specs.declared.item.Declaration.{Declaration}
use Rattle.syntax.specs.Items.{declaration_view}
use Rattle.scopes.specs.Names.{declared_idents}
use Rattle.compose.proofs.sets.idents_of.Goals as goal

idents_are : (ds : List Declaration) → map (λ (d : Declaration). d.ident) ds ≡ declared_idents (map declaration_view ds)
idents_are [] = refl
idents_are (d ∷ ds) = ap (λ (is : List Ident). d.ident ∷ is) (idents_are ds)

pub returns : goal.returns
returns c =
    let items = c.as_slice-declaration-items.result.now in
    let all : take c.loop-declaration.declaration-index items ≡ items = take_all c.loop-declaration.declaration-index items (omega arith) in
    c.loop-declaration.invariant ∙ ap (map (λ (d : Declaration). d.ident)) (all ∙ c.as_slice-declaration-items.ensures) ∙ idents_are c.args.declarations.now.items

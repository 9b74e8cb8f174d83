use Rattle.std.proofs.Common.{◌≡◌, List, map, ap, ◌∙◌, subst, IfOk}
use Rattle.syntax.specs.declared.item.Declaration.{Declaration}
use Rattle.open_types.specs.Open.{open_view}
use Rattle.scopes.specs.Texts.{name_at, type_text}
use Rattle.scopes.proofs.Declared.{declared_idents-are}
use Rattle.scopes.proofs.text.type_text.Goals as goal

pub returns : goal.returns
returns c =
    let idents = ap (λ (ds : List Declaration). map (λ d. d.ident) ds) c.as_slice.ensures ∙ declared_idents-are c.args.declarations.now.items in
    subst (λ xs. IfOk c.text_of_type.result (λ text. text ≡ type_text (name_at xs) (open_view c.args.ty.now))) idents
    (subst (λ o. IfOk c.text_of_type.result (λ text. text ≡ type_text (name_at (map (λ d. d.ident) c.as_slice.result.now)) (open_view o))) c.as_open.ensures.same c.text_of_type.ensures)

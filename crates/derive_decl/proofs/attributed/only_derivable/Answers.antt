use Rattle.std.proofs.Common.{◌∙◌, List, map, ap, sym, inl, inr}
use Rattle.syntax.specs.declared.item.Declaration.{Declaration}
use Rattle.syntax.specs.Items.{declaration_view}
use Rattle.derive_decl.specs.Attributed.{attributes_among, first_other}
use Rattle.derive_decl.proofs.attributed.only_derivable.Goals as goal

pub returns-in-Some-clause-refused : goal.returns-in-Some-clause-refused
returns-in-Some-clause-refused c =
    let is = ap (λ (ds : List Declaration). first_other (attributes_among (map declaration_view ds))) (sym c.as_slice.ensures) ∙ sym c.first_among.ensures ∙ c.in-Some.is in
    elim c.syntax.ensures [ inl memory ↦ inl memory | inr refuses ↦ inr (c.in-Some.other, is, refuses) ]

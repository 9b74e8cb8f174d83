-- What is selected is one thing.
use Rattle.std.proofs.Common.{◌≡◌, ◌∙◌, refl, ap, sym, subst, ℕ, List, [], ◌∷◌}
use Rattle.configuration.specs.Configuration.{Configuration}
use Rattle.prepare.specs.declared.file_items.FileAlias.{FileAlias}
use Rattle.prepare.specs.declared.file_items.FileItem.{FileItem}
use Rattle.type_grammar.specs.Source.{ReadsType}
use Rattle.written_types.specs.Written.{Written}
use Rattle.selecting.specs.Laws.{SelectedAsOne, AddedAsOne}
use Rattle.selecting.specs.Lists.{AreThose, no_others, one_holds, one_fails}
use Rattle.selecting.specs.Selected.{nodes, IsChosen, IsNeeded, AreChosen}
use Rattle.selecting.specs.Types.{with_new, Adds}
use Rattle.selecting.specs.declared.selection.Selection.{Selection}

same_those : {A : Type 0} {Holds : A → Type 0} {xs ys zs : List A} → AreThose Holds xs ys → AreThose Holds xs zs → ys ≡ zs
same_those no_others no_others = refl
same_those (one_holds {x = x} h more) (one_holds g rest) = ap (λ v. x ∷ v) (same_those more rest)
same_those (one_holds h more) (one_fails g rest) = absurd (g h)
same_those (one_fails h more) (one_holds g rest) = absurd (h g)
same_those (one_fails h more) (one_fails g rest) = same_those more rest

abbrev OneType : Type 0
OneType = (text : List ℕ) (t u : Written) → ReadsType text t → ReadsType text u → t ≡ u

module _ (one : OneType) where
  pub added : AddedAsOne
  added c d e [] is or = is ∙ sym or
  added c d e (a ∷ needed) is or =
      let same = one a.of is.0 or.0 is.1.0 or.1.0 in
      added (with_new c (record { name = a.declared.name; of = is.0 })) d e needed is.2 (subst (λ t. Adds (with_new c (record { name = a.declared.name; of = t })) needed e) (sym same) or.2)

  same_chosen : {s : Selection} {c : Configuration} {items chosen others : List FileItem} {aliases needed more : List FileAlias} → AreChosen s c items chosen aliases needed → AreChosen s c items others aliases more
      → (chosen ≡ others) × (needed ≡ more)
  same_chosen {s = s} {c = c} {items = items} {others = others} {more = more} h g =
      let typed = same_those h.have_types g.have_types in
      let chosen = subst (λ v. AreThose (IsChosen s (nodes s c items v)) items others) (sym typed) g.are_chosen in
      let needed = subst (λ v. AreThose (IsNeeded (nodes s c items v)) v more) (sym typed) g.are_needed in
      (same_those h.are_chosen chosen, same_those h.are_needed needed)

  pub selected : SelectedAsOne
  selected s c names items chosen others aliases needed more h g = same_chosen h g

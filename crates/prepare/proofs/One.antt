-- What stands of a source is one thing.
use Rattle.std.proofs.Common.{◌≡◌, ◌∙◌, ℕ, List, [], ◌++◌, refl, ap, ap₂, sym, subst, Some}
use Rattle.tokens.specs.Trees.{Tree}
use Rattle.prepare.specs.declared.file_items.FileAlias.{FileAlias}
use Rattle.prepare.specs.declared.file_items.FileItem.{FileItem}
use Rattle.prepare.specs.declared.item.Standing.{Standing}
use Rattle.prepare.specs.Trees.{listed}
use Rattle.prepare.specs.Items.{Item, item_at}
use Rattle.prepare.specs.Standing.{AreItems, no_items, more_items, StandIn, itself, all, inside, nothing, StandInside, for_tests, items}
use Rattle.prepare.specs.FileItems.{items_in, AreItemsOf, aliases_in, AreAliasesOf}
use Rattle.prepare.specs.Prepared.{IsFile}
use Rattle.prepare.proofs.Answered.{OneCut}
use Rattle.prepare.proofs.Passed.{item_past}

-- items behind the first, and what stands of all
split_of : {ts rest : List Tree} {i : Item} {us : List Standing} → AreItems ts us → item_at ts ≡ Some (i, rest) → (held : List Standing) × (behind : List Standing) × StandIn i held × AreItems rest behind × (held ++ behind ≡ us)
split_of no_items e = elim (item_past [] _ _ e) [ ]
split_of {rest = rest} {i = i} (more_items {rest = after} {item = j} {of_item = held} {others = behind} f t later) e =
    let same : ◌≡◌ {A = Item × List Tree} (j, after) (i, rest) = cc in
    (held, behind, subst (λ p. StandIn p.0 held) same t, subst (λ p. AreItems p.1 behind) same later, refl)

mutual
  same_items : {ts : List Tree} {ss us : List Standing} → AreItems ts ss → AreItems ts us → ss ≡ us
  same_items no_items no_items = refl
  same_items no_items (more_items e s more) = elim (item_past [] _ _ e) [ ]
  same_items (more_items e s more) r =
      let split = split_of r e in
      ap₂ (λ (a b : List Standing). a ++ b) (same_standing s split.2) (same_items more split.3) ∙ split.4

  same_standing : {i : Item} {ss us : List Standing} → StandIn i ss → StandIn i us → ss ≡ us
  same_standing itself itself = refl
  same_standing all all = refl
  same_standing (inside h) (inside g) = same_inside h g
  same_standing nothing nothing = refl

  same_inside : {ts : List Tree} {ss us : List Standing} → StandInside ts ss → StandInside ts us → ss ≡ us
  same_inside (for_tests e) (for_tests f) = refl
  same_inside (for_tests e) (items f h) = cc
  same_inside (items e h) (for_tests f) = cc
  same_inside (items e h) (items f g) = same_items h g

one_file : OneCut → (source : List ℕ) (ss us : List Standing) → IsFile source ss → IsFile source us → ss ≡ us
one_file unique source ss us f g = same_inside (subst (λ v. StandInside v ss) (ap listed (unique source f.0 g.0 f.1 g.1)) f.2) g.2

pub one_list : OneCut → (file : ℕ) (source : List ℕ) (items others : List FileItem) → AreItemsOf file source items → AreItemsOf file source others → items ≡ others
one_list unique file source xs ys f g = f.2 ∙ ap (items_in file source) (one_file unique source f.0 g.0 f.1 g.1) ∙ sym g.2

pub one_list_of_aliases : OneCut → (file : ℕ) (source : List ℕ) (aliases others : List FileAlias) → AreAliasesOf file source aliases → AreAliasesOf file source others → aliases ≡ others
one_list_of_aliases unique file source xs ys f g = f.2 ∙ ap (aliases_in file source) (one_file unique source f.0 g.0 f.1 g.1) ∙ sym g.2

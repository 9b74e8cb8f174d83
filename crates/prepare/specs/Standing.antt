-- What stands of a file.
use Rattle.std.specs.Prelude.{◌≡◌, List, [], ◌∷◌, ◌++◌, map, true, false, Some, None, Result, Ok, Err}
use Rattle.texts.specs.declared.span.Span.{Span}
use Rattle.std.specs.Borrow.{Bor}
use Rattle.tokens.specs.declared.token.TokenTree.{TokenTree}
use Rattle.tokens.specs.Trees.{Tree, tree_view}
use Rattle.prepare.specs.declared.item.Standing.{Standing}
use Rattle.prepare.specs.declared.item.Stop.{Stop}
use Rattle.prepare.specs.declared.item.Stop.TheVariants as stop
use Rattle.prepare.specs.Trees.{before}
use Rattle.prepare.specs.Attributes.{after_inner, is_for_tests}
use Rattle.prepare.specs.Items.{Item, stands, holds, passed, item_at, stop_of}
use Rattle.prepare.specs.Items as item

mutual
  -- all of the trees are items, of which this stands
  pub data AreItems : List Tree → List Standing → Type 0 where
    no_items : AreItems [] []
    more_items : {ts rest : List Tree} {item : Item} {of_item others : List Standing} → item_at ts ≡ Some (item, rest) → StandIn item of_item → AreItems rest others → AreItems ts (of_item ++ others)

  -- what stands of an item
  pub data StandIn : Item → List Standing → Type 0 where
    itself : {s : Standing} → StandIn (stands s) (s ∷ [])
    all : {ss : List Standing} → StandIn (item.all ss) ss
    inside : {ts : List Tree} {ss : List Standing} → StandInside ts ss → StandIn (holds ts) ss
    nothing : StandIn passed []

  -- what stands of a file, or in the brackets of a module
  pub data StandInside : List Tree → List Standing → Type 0 where
    for_tests : {ts : List Tree} → is_for_tests (before ts (after_inner ts)) ≡ true → StandInside ts []
    items : {ts : List Tree} {ss : List Standing} → is_for_tests (before ts (after_inner ts)) ≡ false → AreItems (after_inner ts) ss → StandInside ts ss

mutual
  -- the trees are not all items, and the first that is none begins at the span
  pub data StopAt : List Tree → Span → Type 0 where
    here : {ts : List Tree} → item_at ts ≡ None → (ts ≡ [] → ⊥) → StopAt ts (stop_of ts)
    in_item : {ts rest : List Tree} {item : Item} {span : Span} → item_at ts ≡ Some (item, rest) → StopIn item span → StopAt ts span
    behind : {ts rest : List Tree} {item : Item} {of_item : List Standing} {span : Span} → item_at ts ≡ Some (item, rest) → StandIn item of_item → StopAt rest span → StopAt ts span

  -- nor are those of an item, and those of a file or in the brackets of a module
  pub data StopIn : Item → Span → Type 0 where
    in_module : {ts : List Tree} {span : Span} → StopInside ts span → StopIn (holds ts) span

  pub data StopInside : List Tree → Span → Type 0 where
    in_items : {ts : List Tree} {span : Span} → is_for_tests (before ts (after_inner ts)) ≡ false → StopAt (after_inner ts) span → StopInside ts span

-- the trees up to the rest are items, of which this stands
pub data StandUpTo : (ts rest : List Tree) → List Standing → Type 0 where
  none_yet : {ts : List Tree} → StandUpTo ts ts []
  one_more : {ts after rest : List Tree} {item : Item} {of_item others : List Standing} → item_at ts ≡ Some (item, after) → StandIn item of_item → StandUpTo after rest others → StandUpTo ts rest (of_item ++ others)

-- the trees begin with items, and then with one that stops at the span
pub record StopsInOne (ts : List Tree) (span : Span) : Type 0 where
  pub rest : List Tree
  pub after : List Tree
  pub item : Item
  pub found : List Standing
  pub up_to : StandUpTo ts rest found
  pub is : item_at rest ≡ Some (item, after)
  pub stops : StopIn item span

-- what a function found of the items that the trees begin with, and what follows them, which begins with none
abbrev pub PassesItems : List Tree → Result (List Standing × Bor (List TokenTree)) Stop → Type 0
PassesItems ts (Ok p) = StandUpTo ts (map tree_view p.1.now) p.0 × (item_at (map tree_view p.1.now) ≡ None)
PassesItems ts (Err stop.Memory) = Unit {0}
PassesItems ts (Err (stop.At span)) = StopsInOne ts span

-- what a function found, or there is nothing to be found and it stopped there, unless memory ran out
abbrev pub Finds : {X : Type 0} → (X → Type 0) → (Span → Type 0) → Result X Stop → Type 0
Finds Is Stops (Ok x) = Is x
Finds Is Stops (Err stop.Memory) = Unit {0}
Finds {X = X} Is Stops (Err (stop.At span)) = ((x : X) → ¬ (Is x)) × Stops span

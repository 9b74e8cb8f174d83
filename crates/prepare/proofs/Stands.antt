-- What stands of trees, item by item.
use Rattle.std.proofs.Common.{◌≡◌, ℕ, ◌<◌, ◌≤◌, ◌+◌, ◌*◌, List, [], ◌∷◌, ◌++◌, length, map, ◌==◌, refl, sym, subst, arith, append_assoc, true, false, None, Some, Result, Ok, Err}
use Rattle.std.proofs.lemmas.List.{append-nil}
use Rattle.std.proofs.lemmas.Bool.{eqb-true}
use Rattle.texts.specs.declared.span.Span.{Span}
use Rattle.tokens.specs.declared.token.TokenTree.{TokenTree}
use Rattle.tokens.specs.Trees.{Tree, tree_view, trees_of, depth}
use Rattle.prepare.specs.declared.item.Standing.{Standing}
use Rattle.prepare.specs.Trees.{before}
use Rattle.prepare.specs.Attributes.{after_inner, is_for_tests}
use Rattle.prepare.specs.declared.item.Stop.{Stop}
use Rattle.prepare.specs.declared.item.Stop.TheVariants as stop
use Rattle.prepare.specs.Items.{Item, item_at, stop_of, ReadsItem}
use Rattle.prepare.specs.Items as item
use Rattle.prepare.specs.Standing.{AreItems, no_items, more_items, StandUpTo, none_yet, one_more, StopsInOne, PassesItems, StandIn, inside, StandInside, for_tests, items, StopAt, here, in_item, StopIn, in_module, StopInside, in_items, Finds}
use Rattle.prepare.specs.Standing as standing
use Rattle.prepare.proofs.Behind.{IsBehind, same, weakly, then_behind}
use Rattle.prepare.proofs.More.{item_more}
use Rattle.prepare.proofs.Passed.{item_past, item_less}

-- the items behind the first
pub first_of : {ts rest : List Tree} {i : Item} {ss : List Standing} → AreItems ts ss → item_at ts ≡ Some (i, rest) → (of_item : List Standing) × (others : List Standing) × StandIn i of_item × AreItems rest others
first_of no_items e = elim (item_past [] _ _ e) [ ]
first_of {rest = rest} {i = i} (more_items {rest = after} {item = j} {of_item = found} {others = others} is s more) e =
    let same : ◌≡◌ {A = Item × List Tree} (j, after) (i, rest) = cc in
    (found, others, subst (λ p. StandIn p.0 found) same s, subst (λ p. AreItems p.1 others) same more)

unread : (rest : List Tree) (others : List Standing) → (rest ≡ [] → ⊥) → item_at rest ≡ None → AreItems rest others → ⊥
unread rest others some e no_items = some refl
unread rest others some e (more_items is s more) = cc

-- ---- items up to others
pub up_to_behind : {ts rest : List Tree} {found : List Standing} → StandUpTo ts rest found → IsBehind rest ts
up_to_behind none_yet = same
up_to_behind {ts = ts} (one_more {after = after} {item = i} e s h) = then_behind (up_to_behind h) (weakly (item_past ts i after e))

pub up_to_then : {ts rest last : List Tree} {found others : List Standing} → StandUpTo ts rest found → StandUpTo rest last others → StandUpTo ts last (found ++ others)
up_to_then none_yet g = g
up_to_then {ts = ts} {last = last} {others = others} (one_more {of_item = held} {others = found} e s h) g = subst (StandUpTo ts last) (sym (append_assoc held found others)) (one_more e s (up_to_then h g))

pub up_to_next : {ts rest after : List Tree} {i : Item} {found of_item : List Standing} → StandUpTo ts rest found → item_at rest ≡ Some (i, after) → StandIn i of_item → StandUpTo ts after (found ++ of_item)
up_to_next {rest = rest} {after = after} {of_item = held} h e s = up_to_then h (subst (StandUpTo rest after) (append-nil held) (one_more e s none_yet))

pub up_to_items : {ts rest : List Tree} {found others : List Standing} → StandUpTo ts rest found → AreItems rest others → AreItems ts (found ++ others)
up_to_items none_yet g = g
up_to_items {ts = ts} {others = others} (one_more {of_item = held} {others = found} e s h) g = subst (AreItems ts) (sym (append_assoc held found others)) (more_items e s (up_to_items h g))

pub up_to_end : (ts : List Tree) (found : List Standing) → StandUpTo ts [] found → AreItems ts found
up_to_end ts found h = subst (AreItems ts) (append-nil found) (up_to_items h no_items)

pub up_to_stops : {ts rest : List Tree} {found : List Standing} {span : Span} → StandUpTo ts rest found → StopAt rest span → StopAt ts span
up_to_stops none_yet stop = stop
up_to_stops (one_more e s h) stop = standing.behind e s (up_to_stops h stop)

-- whatever follows
pub up_to_more : {ts rest : List Tree} {found : List Standing} → StandUpTo ts rest found → (more : List Tree) → StandUpTo (ts ++ more) (rest ++ more) found
up_to_more none_yet more = none_yet
up_to_more {ts = ts} (one_more {after = after} {item = i} e s h) more = one_more (item_more ts i after more e) s (up_to_more h more)

pub stops_more : {ts : List Tree} {span : Span} → StopsInOne ts span → (more : List Tree) → StopAt (ts ++ more) span
stops_more h more = up_to_stops (up_to_more h.up_to more) (in_item (item_more h.rest h.item h.after more h.is) h.stops)

-- ---- nothing stands where items stop
mutual
  at_excludes : {ts : List Tree} {span : Span} {ss : List Standing} → StopAt ts span → AreItems ts ss → ⊥
  at_excludes {ts = ts} {ss = ss} (here e some) h = unread ts ss some e h
  at_excludes (in_item e stop) h = let first = first_of h e in in_excludes stop first.2
  at_excludes (standing.behind e s stop) h = let first = first_of h e in at_excludes stop first.3

  in_excludes : {i : Item} {span : Span} {ss : List Standing} → StopIn i span → StandIn i ss → ⊥
  in_excludes (in_module stop) (inside h) = inside_excludes stop h

  pub inside_excludes : {ts : List Tree} {span : Span} {ss : List Standing} → StopInside ts span → StandInside ts ss → ⊥
  inside_excludes (in_items e stop) (for_tests f) = cc
  inside_excludes (in_items e stop) (items f h) = at_excludes stop h

pub finds_stop : {ts : List Tree} {span : Span} → StopAt ts span → Finds (AreItems ts) (StopAt ts) (Err (stop.At span))
finds_stop stop = ((λ ss h. at_excludes stop h), stop)

-- ---- single items

-- how much is left to be read of an item
abbrev pub item_depth : Item → ℕ
item_depth (item.stands s) = 0
item_depth (item.all ss) = 0
item_depth (item.holds ts) = 4 * depth (trees_of ts) + 4
item_depth item.passed = 0

pub depth_less : (ts : List Tree) (i : Item) (rest : List Tree) (n : ℕ) → item_at ts ≡ Some (i, rest) → depth (trees_of ts) ≤ n → item_depth i < 4 * n + 1
depth_less ts (item.stands s) rest n e l = omega arith
depth_less ts (item.all ss) rest n e l = omega arith
depth_less ts (item.holds held) rest n e l = let less = item_less ts held rest e in omega arith
depth_less ts item.passed rest n e l = omega arith

pub held_none : (ts : List Tree) → ((ss : List Standing) → StandInside ts ss → ⊥) → (ss : List Standing) → StandIn (item.holds ts) ss → ⊥
held_none ts none ss (inside h) = none ss h

-- ---- files
pub inside_none : (ts : List Tree) → is_for_tests (before ts (after_inner ts)) ≡ false → ((ss : List Standing) → AreItems (after_inner ts) ss → ⊥) → (ss : List Standing) → StandInside ts ss → ⊥
inside_none ts f none ss (for_tests t) = cc
inside_none ts f none ss (items g h) = none ss h

-- ---- what the program's readers find

pub some_left : (ts : List TokenTree) → (length ts == 0) ≡ false → map tree_view ts ≡ [] → ⊥
some_left [] e h = cc
some_left (t ∷ ts) e h = cc

pub none_left : (ts : List TokenTree) → (length ts == 0) ≡ true → map tree_view ts ≡ []
none_left [] e = refl
none_left (t ∷ ts) e = absurd (let h = eqb-true (length (t ∷ ts)) 0 e in omega arith)

pub rest_stops : (ts : List Tree) (rest : List TokenTree) (found : List Standing) → StandUpTo ts (map tree_view rest) found → item_at (map tree_view rest) ≡ None → (length rest == 0) ≡ false
    → Finds (AreItems ts) (StopAt ts) (Err (stop.At (stop_of (map tree_view rest))))
rest_stops ts rest found h none some = finds_stop (up_to_stops h (here none (some_left rest some)))

pub passed_none : (ts : List Tree) (e : Stop) → PassesItems ts (Err e) → Finds (AreItems ts) (StopAt ts) (Err e)
passed_none ts stop.Memory h = tt
passed_none ts (stop.At span) h = finds_stop (up_to_stops h.up_to (in_item h.is h.stops))

pub held_finds : (ts : List Tree) (r : Result (List Standing) Stop) → Finds (StandInside ts) (StopInside ts) r → Finds (StandIn (item.holds ts)) (StopIn (item.holds ts)) r
held_finds ts (Ok ss) h = inside h
held_finds ts (Err stop.Memory) h = tt
held_finds ts (Err (stop.At span)) h = (held_none ts h.0, in_module h.1)

pub inside_finds : (ts : List Tree) (r : Result (List Standing) Stop) → is_for_tests (before ts (after_inner ts)) ≡ false → Finds (AreItems (after_inner ts)) (StopAt (after_inner ts)) r → Finds (StandInside ts) (StopInside ts) r
inside_finds ts (Ok ss) f h = items f h
inside_finds ts (Err stop.Memory) f h = tt
inside_finds ts (Err (stop.At span)) f h = (inside_none ts f h.0, in_items f h.1)

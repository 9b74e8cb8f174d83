use Rattle.std.proofs.Common.{◌≡◌, ◌⊎◌, ℕ, List, length, true, None}
use Rattle.std.specs.BTreeMap.{btree_map_len}
use Rattle.texts.specs.Names.{is_in}
use Rattle.reaching.specs.Taken.{texts_of, names_in}
use Rattle.reaching.proofs.unreached.next_names.Given as goal

abbrev pub invariant-reached : goal.invariant-reached
invariant-reached l = record {
  same : (other : List ℕ) → names_in l.by_name other ≡ names_in l.initial.by_name other;
  many : btree_map_len l.by_name ≡ btree_map_len l.initial.by_name;
  fewer : (other : List ℕ) → is_in other (texts_of l.reached) ≡ true → is_in other (texts_of l.initial.reached) ≡ true;
  enough : (other : List ℕ) → is_in other (texts_of l.initial.reached) ≡ true → (is_in other (texts_of l.reached) ≡ true) ⊎ (names_in l.initial.by_name other ≡ None);
}

abbrev pub decreases-reached : goal.decreases-reached
decreases-reached l = length l.reached

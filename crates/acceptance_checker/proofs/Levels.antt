-- How deep values nest. What is looked up in a value nests less than the value.
use Rattle.std.proofs.Common.{◌≡◌, ℕ, zero, suc, ◌+◌, ◌-◌, ◌*◌, ◌<◌, ◌≤◌, max, List, Bool, true, false, cond, bytes_eq, codes, Option, Some, None, option_and_then, refl, arith}
use Rattle.acceptance.specs.Json.{Json, null, boolean, number, text, list, map, Items, no_items, item, Members, no_members, member, entries, look, member_of}
use Rattle.acceptance.specs.Acceptance.{component_schema}

-- how many levels lists and maps nest
abbrev mutual
  pub levels : Json → ℕ
  levels null = 0
  levels (boolean b) = 0
  levels (number n) = 0
  levels (text s) = 0
  levels (list xs) = suc (items_levels xs)
  levels (map ms) = suc (members_levels ms)

  pub items_levels : Items → ℕ
  items_levels no_items = 0
  items_levels (item x xs) = max (levels x) (items_levels xs)

  pub members_levels : Members → ℕ
  members_levels no_members = 0
  members_levels (member k x ms) = max (levels x) (members_levels ms)

within-cond : (b : Bool) (x y : Json) (rest : Option Json) (n : ℕ) → levels x ≤ n → (rest ≡ Some y → levels y ≤ n) → cond b (Some x) rest ≡ Some y → levels y ≤ n
within-cond true x y rest n here later e = let same : x ≡ y = cc in rw (← same) here
within-cond false x y rest n here later e = later e

levels-look : (k : List ℕ) (ms : Members) (x : Json) → look k (entries ms) ≡ Some x → levels x ≤ members_levels ms
levels-look k no_members x e = absurd cc
levels-look k (member l y ms) x e =
    within-cond (bytes_eq k l) y x (look k (entries ms)) (max (levels y) (members_levels ms)) (omega arith)
    (λ f. let below : levels x ≤ members_levels ms = levels-look k ms x f in omega arith) e

levels-member_of : (k : List ℕ) (v x : Json) → member_of k v ≡ Some x → levels x < levels v
levels-member_of k (map ms) x e = let below : levels x ≤ members_levels ms = levels-look k ms x e in omega arith
levels-member_of k null x e = absurd cc
levels-member_of k (boolean b) x e = absurd cc
levels-member_of k (number n) x e = absurd cc
levels-member_of k (text s) x e = absurd cc
levels-member_of k (list xs) x e = absurd cc

levels-in : (o : Option Json) (k : List ℕ) (x : Json) (n : ℕ) → ((y : Json) → o ≡ Some y → levels y ≤ n) → option_and_then (member_of k) o ≡ Some x → levels x ≤ n
levels-in None k x n h e = absurd cc
levels-in (Some y) k x n h e =
    let outer : levels y ≤ n = h y refl in
    let inner : levels x < levels y = levels-member_of k y x e in omega arith

pub levels-component : (document : Json) (name : List ℕ) (s : Json) → component_schema document name ≡ Some s → levels s ≤ levels document
levels-component document name s = levels-in (option_and_then (member_of (codes "schemas")) (member_of (codes "components") document)) name s (levels document)
    (λ y. levels-in (member_of (codes "components") document) (codes "schemas") y (levels document)
    (λ z e. let below : levels z < levels document = levels-member_of (codes "components") document z e in omega arith))

-- one reference more, and a schema of the document, take less than one reference
pub one_less : (depth all here : ℕ) → (depth ≡ 0 → ⊥) → here ≤ all → (depth - 1) * (5 * all + 1) + 5 * here < depth * (5 * all + 1) + 1
one_less zero all here h le = absurd (h refl)
one_less (suc d) all here h le = let e : suc d - 1 ≡ d = omega arith in rw e (omega arith)

-- The names that nodes name, by the names of these.
use Rattle.std.proofs.Common.{◌≡◌, ◌∙◌, ◌≤◌, ◌-◌, ℕ, length, get_or, take, drop, arith, ap₂, List, [], ◌∷◌, ◌++◌, refl, ap, sym, subst, ◌⊎◌, inl, inr, true, false, cond, bytes_eq, Option, Some, None, unwrap_or}
use Rattle.std.proofs.lemmas.Bool.{cases_Bool}
use Rattle.std.proofs.lemmas.List.{take_all}
use Rattle.texts.specs.Names.{is_in}
use Rattle.reaching.specs.declared.node.Node.{Node}
use Rattle.reaching.specs.declared.node.NodeRef.{NodeRef}
use Rattle.reaching.specs.Reached.{node_of, nodes_of, IsNodeIn}
use Rattle.reaching.specs.Taken.{NamesByName, with_names, entries_with, entry}
use Rattle.reaching.proofs.Within.{bytes_same, bytes_itself, in_either, in_left, in_right}

-- maps that have the same names
abbrev pub AreSame : NamesByName → NamesByName → Type 0
AreSame f g = (k : List ℕ) → f k ≡ g k

-- ---- what the entries have

-- a name has these names, and perhaps more
Has : NamesByName → List ℕ → List (List ℕ) → Type 0
Has f k ms = (ns : List (List ℕ)) × (f k ≡ Some ns) × ((x : List ℕ) → is_in x ms ≡ true → is_in x ns ≡ true)

with_same : (d : Node) (f : NamesByName) (k : List ℕ) → bytes_eq d.name k ≡ true → with_names d f k ≡ Some (unwrap_or (f d.name) [] ++ d.names)
with_same d f k e = ap (λ b. cond b (Some (unwrap_or (f d.name) [] ++ d.names)) (f k)) e

with_other : (d : Node) (f : NamesByName) (k : List ℕ) → bytes_eq d.name k ≡ false → with_names d f k ≡ f k
with_other d f k e = ap (λ b. cond b (Some (unwrap_or (f d.name) [] ++ d.names)) (f k)) e

kept_by : (d : Node) (f : NamesByName) (k : List ℕ) (ms : List (List ℕ)) → f k ≡ Some ms → Has (with_names d f) k ms
unfolding Has
kept_by d f k ms e = elim (cases_Bool (bytes_eq d.name k)) [
  | inl h ↦
      let old : f d.name ≡ Some ms = ap f (bytes_same d.name k h) ∙ e in
      (ms ++ d.names, with_same d f k h ∙ ap (λ o. Some (unwrap_or o [] ++ d.names)) old, λ x i. in_left x ms d.names i)
  | inr h ↦ (ms, with_other d f k h ∙ e, λ x i. i)
]

kept : (ss : List Node) (f : NamesByName) (k : List ℕ) (ms : List (List ℕ)) → f k ≡ Some ms → Has (entries_with f ss) k ms
unfolding Has
kept [] f k ms e = (ms, e, λ x i. i)
kept (d ∷ ds) f k ms e =
    let one = kept_by d f k ms e in
    let all = kept ds (with_names d f) k one.0 one.1 in
    (all.0, all.1, λ x i. all.2 x (one.2 x i))

node_has : (ss : List Node) (f : NamesByName) (d : Node) → IsNodeIn ss d → Has (entries_with f ss) d.name d.names
unfolding Has
node_has [] f d h = elim h [ ]
node_has (c ∷ ds) f d (inl e) =
    let here : with_names c f d.name ≡ Some (unwrap_or (f d.name) [] ++ d.names) = ap (λ c. with_names c f d.name) e ∙ with_same d f d.name (bytes_itself d.name) in
    let all = kept ds (with_names c f) d.name (unwrap_or (f d.name) [] ++ d.names) here in
    (all.0, all.1, λ x i. all.2 x (in_right x (unwrap_or (f d.name) []) d.names i))
node_has (c ∷ ds) f d (inr h) = node_has ds (with_names c f) d h

-- the names that a node names are in the entry of its name
pub has_entry : (ss : List Node) (d : Node) → IsNodeIn ss d → (ns : List (List ℕ)) × (entry ss d.name ≡ Some ns) × ((x : List ℕ) → is_in x d.names ≡ true → is_in x ns ≡ true)
unfolding Has
has_entry ss d h = node_has ss (λ _. None) d h

-- where a name comes from
ComesFrom : List Node → NamesByName → List ℕ → List ℕ → Type 0
ComesFrom ss f k x = ((ms : List (List ℕ)) × (f k ≡ Some ms) × (is_in x ms ≡ true)) ⊎ ((d : Node) × IsNodeIn ss d × (d.name ≡ k) × (is_in x d.names ≡ true))

from_old : (o : Option (List (List ℕ))) (x : List ℕ) → is_in x (unwrap_or o []) ≡ true → (ms : List (List ℕ)) × (o ≡ Some ms) × (is_in x ms ≡ true)
from_old None x i = cc
from_old (Some ms) x i = (ms, refl, i)

from_with : (d : Node) (f : NamesByName) (k x : List ℕ) (ms : List (List ℕ)) → with_names d f k ≡ Some ms → is_in x ms ≡ true
    → ((old : List (List ℕ)) × (f k ≡ Some old) × (is_in x old ≡ true)) ⊎ ((d.name ≡ k) × (is_in x d.names ≡ true))
from_with d f k x ms e i = elim (cases_Bool (bytes_eq d.name k)) [
  | inl h ↦
      let named = bytes_same d.name k h in
      let is : unwrap_or (f d.name) [] ++ d.names ≡ ms = let both : Some (unwrap_or (f d.name) [] ++ d.names) ≡ Some ms = sym (with_same d f k h) ∙ e in cc in
      elim (in_either x (unwrap_or (f d.name) []) d.names (subst (λ v. is_in x v ≡ true) (sym is) i)) [
        | inl l ↦ let old = from_old (f d.name) x l in inl (old.0, ap f (sym named) ∙ old.1, old.2)
        | inr r ↦ inr (named, r)
      ]
  | inr h ↦ inl (ms, sym (with_other d f k h) ∙ e, i)
]

from_all : (ss : List Node) (f : NamesByName) (k x : List ℕ) (ns : List (List ℕ)) → entries_with f ss k ≡ Some ns → is_in x ns ≡ true → ComesFrom ss f k x
unfolding ComesFrom
from_all [] f k x ns e i = inl (ns, e, i)
from_all (d ∷ ds) f k x ns e i = elim (from_all ds (with_names d f) k x ns e i) [
  | inr c ↦ inr (c.0, inr c.1, c.2, c.3)
  | inl m ↦ elim (from_with d f k x m.0 m.1 m.2) [
    | inl old ↦ inl old
    | inr h ↦ inr (d, inl refl, h.0, h.1)
  ]
]

pub from_entry : (ss : List Node) (k x : List ℕ) (ns : List (List ℕ)) → entry ss k ≡ Some ns → is_in x ns ≡ true → (d : Node) × IsNodeIn ss d × (d.name ≡ k) × (is_in x d.names ≡ true)
unfolding ComesFrom
from_entry ss k x ns e i = elim (from_all ss (λ _. None) k x ns e i) [ inl old ↦ let none = old.1 in cc | inr d ↦ d ]

-- ---- one node after another

-- with more entries behind maps that have the same names
pub same_with : (f g : NamesByName) (nodes : List Node) → AreSame f g → AreSame (entries_with f nodes) (entries_with g nodes)
same_with f g nodes same k = ap (λ v. entries_with v nodes k) (λ i k. same k i)

-- what is added of a node stands in front of what is added of those behind it
pub node_front : (f g : NamesByName) (all rest : List NodeRef) (n : NodeRef) → AreSame g (with_names (node_of n) f) → all ≡ n ∷ rest → AreSame (entries_with g (nodes_of rest)) (entries_with f (nodes_of all))
node_front f g all rest n same split k = same_with g (with_names (node_of n) f) (nodes_of rest) same k ∙ sym (ap (λ v. entries_with f (nodes_of v) k) split)

-- the first of a list, and those behind it
pub split_first : {A : Type 0} (xs : List A) (x : A) → 1 ≤ length xs → x ≡ get_or xs 0 x → xs ≡ x ∷ take (length xs - 1) (drop 1 xs)
split_first [] x l e = absurd (omega arith)
split_first (y ∷ ys) x l e =
    let rest : take (length (y ∷ ys) - 1) ys ≡ ys = take_all (length (y ∷ ys) - 1) ys (omega arith) in
    ap₂ (λ a b. a ∷ b) (sym e) (sym rest)

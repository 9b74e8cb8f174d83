-- A table that grows by a node: its types, and its index.
use Rattle.std.proofs.Common.{ℕ, suc, ◌<◌, List, [], ◌∷◌, ◌++◌, length, get_or, Option, Some, None, Bool, true, false, cond, ◌≡◌, refl, ap, sym, subst, ◌∙◌, ◌⊎◌, inl, inr, arith, is_eq, Ordering, Less, Equal, Greater}
use Rattle.std.specs.BTreeMap.{is_at}
use Rattle.std.proofs.Math.ListN.{get_or-append}
use Rattle.std.proofs.Math.Seq.{get_or-append_seam}
use Rattle.std.proofs.lemmas.Option.{none-some, same_Some}
use Rattle.std.proofs.lemmas.Bool.{cases_Bool}
use Rattle.open_types.specs.Open.{Open}
use Rattle.type_table.specs.declared.node.Node.{Node}
use Rattle.type_table.specs.Keys.{key_of, key_cmp}
use Rattle.type_table.specs.Nodes.{node_type, types_of, HasParts, IsIndex, IsTable}
use Rattle.type_table.specs.Types.{type_at, IsFront, AreApart, IsAmongFirst}
use Rattle.type_table.proofs.KeyLaws.{one-key, key-tie, key-itself}
use Rattle.type_table.proofs.Listed.{as_many, node-at, whole-more, IsNode}
use Rattle.type_table.proofs.Tables.{nodes-grow, one-node, apart-stay, type-behind, more-long}

-- ---- the index of a node more

equal-is : (o : Ordering) → is_eq o ≡ true → o ≡ Equal
equal-is Less e = cc
equal-is Equal e = refl
equal-is Greater e = cc

last-or-before : (n m : ℕ) → n < suc m → (n < m) ⊎ (n ≡ m)
last-or-before n m l = grind arith

module _ (look new : ℕ × ℕ × ℕ → Option ℕ) (ns : List Node) (m : Node) (old : IsIndex look ns) (none : look (key_of m) ≡ None)
    (more : (q : ℕ × ℕ × ℕ) → new q ≡ cond (is_at (key_cmp (key_of m)) q) (Some (length ns)) (look q)) where
  abbrev at : ℕ × ℕ × ℕ → Bool
  at q = is_at (key_cmp (key_of m)) q

  same-key : (q : ℕ × ℕ × ℕ) → at q ≡ true → key_of m ≡ q
  same-key q e = key-tie (key_of m) q (equal-is (key_cmp (key_of m) q) e)

  yes : (q : ℕ × ℕ × ℕ) → at q ≡ true → new q ≡ Some (length ns)
  yes q e = more q ∙ ap (λ b. cond b (Some (length ns)) (look q)) e

  no : (q : ℕ × ℕ × ℕ) → at q ≡ false → new q ≡ look q
  no q e = more q ∙ ap (λ b. cond b (Some (length ns)) (look q)) e

  itself : at (key_of m) ≡ true
  itself = ap is_eq (key-itself (key_of m))

  its_place : (n : ℕ) (x : Node) → n < length (ns ++ m ∷ []) → new (key_of (get_or (ns ++ m ∷ []) n x)) ≡ Some n
  its_place n x l = by (last-or-before n (length ns) (subst (λ k. n < k) (more-long ns m) l))
    where
      before : n < length ns → (at (key_of (get_or ns n x)) ≡ true) ⊎ (at (key_of (get_or ns n x)) ≡ false) → new (key_of (get_or ns n x)) ≡ Some n
      before w (inl e) = absurd (none-some n (sym none ∙ ap look (same-key (key_of (get_or ns n x)) e) ∙ old.there n x w))
      before w (inr e) = no (key_of (get_or ns n x)) e ∙ old.there n x w

      by : (n < length ns) ⊎ (n ≡ length ns) → new (key_of (get_or (ns ++ m ∷ []) n x)) ≡ Some n
      by (inl w) = ap (λ y. new (key_of y)) (get_or-append ns (m ∷ []) x n w) ∙ before w (cases_Bool (at (key_of (get_or ns n x))))
      by (inr e) = ap (λ y. new (key_of y)) (ap (λ k. get_or (ns ++ m ∷ []) k x) e ∙ get_or-append_seam ns m [] x) ∙ yes (key_of m) itself ∙ ap Some (sym e)

  its_node : (x : Node) (n : ℕ) → new (key_of x) ≡ Some n → (n < length (ns ++ m ∷ [])) × (get_or (ns ++ m ∷ []) n x ≡ x)
  its_node x n e = by (cases_Bool (at (key_of x)))
    where
      by : (at (key_of x) ≡ true) ⊎ (at (key_of x) ≡ false) → (n < length (ns ++ m ∷ [])) × (get_or (ns ++ m ∷ []) n x ≡ x)
      by (inl t) =
          let number : length ns ≡ n = same_Some (length ns) n (sym (yes (key_of x) t) ∙ e) in
          let node : m ≡ x = one-key m x (same-key (key_of x) t) in
          (omega (arith, number, more-long ns m), ap (λ k. get_or (ns ++ m ∷ []) k x) (sym number) ∙ get_or-append_seam ns m [] x ∙ node)
      by (inr f) =
          let was = old.held x n (sym (no (key_of x) f) ∙ e) in
          (let l : n < length ns = was.0 in omega (arith, l, more-long ns m), get_or-append ns (m ∷ []) x n was.0 ∙ was.1)

  pub index-more : IsIndex new (ns ++ m ∷ [])
  index-more = record { there = its_place; held = its_node }

-- ---- look-up

-- a node that is not found is the type of no number
pub missing-node : (look : ℕ × ℕ × ℕ → Option ℕ) (ns : List Node) (m : Node) → IsTable look ns → HasParts (types_of ns) m → look (key_of m) ≡ None → ¬ IsAmongFirst (types_of ns) (length (types_of ns)) (node_type (types_of ns) m)
missing-node look ns m table parts none s =
    let w : s.0 < length ns = omega (arith, s.1, as_many ns) in
    let at : IsNode (types_of ns) s.0 (get_or ns s.0 m) = node-at ns s.0 m table.whole w in
    let same : get_or ns s.0 m ≡ m = one-node (types_of ns) table.apart (get_or ns s.0 m) m at.its_parts parts (sym at.its_type ∙ s.2) in
    none-some s.0 (sym none ∙ ap (λ y. look (key_of y)) (sym same) ∙ table.index.there s.0 m w)

-- a node that is found is the type of its number
pub found-node : (look : ℕ × ℕ × ℕ → Option ℕ) (ns : List Node) (m : Node) (n : ℕ) → IsTable look ns → look (key_of m) ≡ Some n → (n < length (types_of ns)) × (type_at (types_of ns) n ≡ node_type (types_of ns) m)
found-node look ns m n table e =
    let is = table.index.held m n e in
    let at : IsNode (types_of ns) n (get_or ns n m) = node-at ns n m table.whole is.0 in
    (let l : n < length ns = is.0 in omega (arith, l, as_many ns), at.its_type ∙ ap (node_type (types_of ns)) is.1)

-- a node whose type is no type of the list is not found
pub not-found : (look : ℕ × ℕ × ℕ → Option ℕ) (ns : List Node) (m : Node) → IsTable look ns → ¬ IsAmongFirst (types_of ns) (length (types_of ns)) (node_type (types_of ns) m) → look (key_of m) ≡ None
not-found look ns m table no = by (look (key_of m)) refl
  where
    by : (o : Option ℕ) → look (key_of m) ≡ o → o ≡ None
    by None e = refl
    by (Some n) e = let is = found-node look ns m n table e in absurd (no (n, is.0, is.1))

-- ---- a table of a node more

module _ (look new : ℕ × ℕ × ℕ → Option ℕ) (ns : List Node) (m : Node) (old : IsTable look ns) (none : look (key_of m) ≡ None) (parts : HasParts (types_of ns) m)
    (more : (q : ℕ × ℕ × ℕ) → new q ≡ cond (is_at (key_cmp (key_of m)) q) (Some (length ns)) (look q)) where
  pub table-more : IsTable new (ns ++ m ∷ [])
  table-more = record {
    index = index-more look new ns m old.index none more;
    whole = whole-more [] ns m old.whole parts;
    apart = subst AreApart (sym (nodes-grow [] ns m)) (apart-stay (types_of ns) (node_type (types_of ns) m) old.apart (λ n l e. missing-node look ns m old parts none (n, l, e)));
  }

-- the type of a node that is added stands at the end
pub record IsAdded (old new : List Open) (n : ℕ) (t : Open) : Type 0 where
  pub within : n < length new
  pub its_type : type_at new n ≡ t
  pub front : IsFront old new

pub added-node : (ns : List Node) (m : Node) → IsAdded (types_of ns) (types_of (ns ++ m ∷ [])) (length ns) (node_type (types_of ns) m)
added-node ns m =
    let t : Open = node_type (types_of ns) m in
    let grown : types_of (ns ++ m ∷ []) ≡ types_of ns ++ t ∷ [] = nodes-grow [] ns m in record {
      within = omega (arith, as_many (ns ++ m ∷ []), more-long ns m);
      its_type = ap (type_at (types_of (ns ++ m ∷ []))) (sym (as_many ns)) ∙ ap (λ ts. type_at ts (length (types_of ns))) grown ∙ type-behind (types_of ns) t;
      front = (t ∷ [], grown);
    }

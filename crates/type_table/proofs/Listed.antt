-- Nodes by their numbers: the type of each, and that its parts stand before it.
use Rattle.std.proofs.Common.{ℕ, zero, suc, ◌+◌, ◌<◌, List, [], ◌∷◌, ◌++◌, length, get_or, ◌≡◌, refl, ap, sym, subst, ◌∙◌, arith}
use Rattle.std.proofs.lemmas.List.{append_assoc, append-nil}
use Rattle.open_types.specs.Open.{Open}
use Rattle.type_table.specs.declared.node.Node.{Node}
use Rattle.type_table.specs.Nodes.{node_type, node_parts, types_from, types_of, HasParts, AreWhole}
use Rattle.type_table.specs.Types.{type_at, IsFront, AllBelow}
use Rattle.type_table.proofs.Tables.{nodes-stay, parts-stay, type-stays, type-behind, more-long}

-- the types begin with those that are known
front-of : (known : List Open) (xs : List Node) → IsFront known (types_from known xs)
front-of known [] = ([], sym (append-nil known))
front-of known (x ∷ xs) =
    let rest = front-of (known ++ node_type known x ∷ []) xs in
    (node_type known x ∷ rest.0, rest.1 ∙ append_assoc known (node_type known x ∷ []) rest.0)

long-from : (known : List Open) (xs : List Node) → length (types_from known xs) ≡ length known + length xs
long-from known [] = omega arith
long-from known (x ∷ xs) = omega (arith, long-from (known ++ node_type known x ∷ []) xs, more-long known (node_type known x))

-- there are as many types as nodes
pub as_many : (xs : List Node) → length (types_of xs) ≡ length xs
as_many xs = let none : length {A = Open} [] ≡ 0 = refl in omega (arith, long-from [] xs, none)

-- the node of a number: its type, and its parts, which stand before it
pub record IsNode (known : List Open) (n : ℕ) (x : Node) : Type 0 where
  pub its_type : type_at known n ≡ node_type known x
  pub its_parts : HasParts known x
  pub its_below : AllBelow n (node_parts x)

node-from : (known : List Open) (xs : List Node) (n : ℕ) (y : Node) → AreWhole known xs → n < length xs → IsNode (types_from known xs) (length known + n) (get_or xs n y)
node-from known [] n y w l = absurd (omega (arith, l))
node-from known (x ∷ xs) zero y w l =
    let t : Open = node_type known x in
    let front : IsFront (known ++ t ∷ []) (types_from (known ++ t ∷ []) xs) = front-of (known ++ t ∷ []) xs in
    let whole : types_from known (x ∷ xs) ≡ known ++ (t ∷ front.0) = front.1 ∙ append_assoc known (t ∷ []) front.0 in
    let here : length known + 0 ≡ length known = omega arith in
    let short : length known < length (known ++ t ∷ []) = omega (arith, more-long known t) in
    record {
      its_type =
          ap (type_at (types_from known (x ∷ xs))) here
          ∙ ap (λ ts. type_at ts (length known)) front.1
          ∙ type-stays (known ++ t ∷ []) front.0 (length known) short
          ∙ type-behind known t
          ∙ sym (nodes-stay known (t ∷ front.0) x w.0)
          ∙ ap (λ ts. node_type ts x) (sym whole);
      its_parts = subst (λ ts. HasParts ts x) (sym whole) (parts-stay known (t ∷ front.0) x w.0);
      its_below = subst (λ k. AllBelow k (node_parts x)) (sym here) w.0.0;
    }
node-from known (x ∷ xs) (suc n) y w l =
    let t : Open = node_type known x in
    let same : length (known ++ t ∷ []) + n ≡ length known + suc n = omega (arith, more-long known t) in
    subst (λ k. IsNode (types_from known (x ∷ xs)) k (get_or xs n y)) same (node-from (known ++ t ∷ []) xs n y w.1 (omega (arith, l)))

-- the node at a number is that of its type
pub node-at : (xs : List Node) (n : ℕ) (y : Node) → AreWhole [] xs → n < length xs → IsNode (types_of xs) n (get_or xs n y)
node-at xs n y w l =
    let none : length {A = Open} [] + n ≡ n = omega arith in
    subst (λ k. IsNode (types_of xs) k (get_or xs n y)) none (node-from [] xs n y w l)

pub whole-more : (known : List Open) (xs : List Node) (x : Node) → AreWhole known xs → HasParts (types_from known xs) x → AreWhole known (xs ++ x ∷ [])
whole-more known [] x w h = (h, tt)
whole-more known (y ∷ xs) x w h = (w.0, whole-more (known ++ node_type known y ∷ []) xs x w.1 h)

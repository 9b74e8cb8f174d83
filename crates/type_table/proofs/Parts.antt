-- The parts of types: by their nodes, and what stands in them.
use Rattle.std.proofs.Common.{ℕ, suc, ◌<◌, List, [], ◌∷◌, ◌++◌, length, map, ◌≡◌, refl, ap, sym, subst, ◌∙◌, ◌⊎◌, inl, inr, ◌↔◌, arith, Option}
use Rattle.open_types.specs.Open.{Open, leaf, any_value, free_object, unit, tuple, items, set, map_of, option, through, param, named, no_types, more_types, IsClosed, AreClosed}
use Rattle.open_types.specs.Instances.{StandsIn, StandsAmong}
use Rattle.type_table.specs.declared.node.Node.{Node}
use Rattle.type_table.specs.declared.node.Node.TheVariants as nodes
use Rattle.type_table.specs.Nodes.{items_of, node_type, node_parts, types_from, types_of, IsTuple, HasParts, AreWhole, IsTable}
use Rattle.type_table.specs.Types.{type_at, AllBelow, AreAmongFirst, parts_of, StandsByParts, AreDistinctTypes}
use Rattle.type_table.proofs.Listed.{as_many, node-at}
use Rattle.type_table.proofs.Tables.{tuple-is, type-stays, type-behind, more-long}

-- the types of a node's parts are the parts of its type
pub parts-are : (known : List Open) (x : Node) → HasParts known x → map (type_at known) (node_parts x) ≡ parts_of (node_type known x)
parts-are known (nodes.Item m n) h = ap (λ t. type_at known m ∷ t ∷ []) (tuple-is (type_at known n) h.1)
parts-are known (nodes.Named d n) h = ap (λ t. t ∷ []) (tuple-is (type_at known n) h.1)
parts-are known (nodes.Leaf x) h = refl
parts-are known nodes.AnyValue h = refl
parts-are known nodes.FreeObject h = refl
parts-are known nodes.Unit h = refl
parts-are known nodes.NoItems h = refl
parts-are known (nodes.Items x n) h = refl
parts-are known (nodes.Set x n) h = refl
parts-are known (nodes.Map x m n) h = refl
parts-are known (nodes.Option n) h = refl
parts-are known (nodes.Through x n) h = refl

-- the types of numbers below the bound are among the first so many
among-first : (known : List Open) (bound : ℕ) (ns : List ℕ) → AllBelow bound ns → AreAmongFirst known bound (map (type_at known) ns)
among-first known bound [] h = tt
among-first known bound (n ∷ ns) h = ((n, h.0, refl), among-first known bound ns h.1)

-- ---- no parameters

abbrev AllClosed : List Open → Type 0
AllClosed known = (n : ℕ) → n < length known → IsClosed (type_at known n)

node-closed : (known : List Open) (x : Node) → AllClosed known → HasParts known x → IsClosed (node_type known x)
node-closed known x all h = by x h
  where
    items-closed : (n : ℕ) → n < length known → IsTuple (type_at known n) → AreClosed (items_of (type_at known n))
    items-closed n l i = subst IsClosed (tuple-is (type_at known n) i) (all n l)

    by : (x : Node) → HasParts known x → IsClosed (node_type known x)
    by (nodes.Leaf x) h = tt
    by nodes.AnyValue h = tt
    by nodes.FreeObject h = tt
    by nodes.Unit h = tt
    by nodes.NoItems h = tt
    by (nodes.Item m n) h = (all m h.0.0, items-closed n h.0.1.0 h.1)
    by (nodes.Items x n) h = all n h.0.0
    by (nodes.Set x n) h = all n h.0.0
    by (nodes.Map x m n) h = (all m h.0.0, all n h.0.1.0)
    by (nodes.Option n) h = all n h.0.0
    by (nodes.Through x n) h = all n h.0.0
    by (nodes.Named d n) h = items-closed n h.0.0 h.1

all-closed : (known : List Open) (xs : List Node) → AllClosed known → AreWhole known xs → AllClosed (types_from known xs)
all-closed known [] all w = all
all-closed known (x ∷ xs) all w = all-closed (known ++ node_type known x ∷ []) xs more w.1
  where
    t : Open
    t = node_type known x

    more : AllClosed (known ++ t ∷ [])
    more n l = by (before (subst (λ k. n < k) (more-long known t) l))
      where
        before : n < suc (length known) → (n < length known) ⊎ (n ≡ length known)
        before l = grind arith

        by : (n < length known) ⊎ (n ≡ length known) → IsClosed (type_at (known ++ t ∷ []) n)
        by (inl b) = subst IsClosed (sym (type-stays known (t ∷ []) n b)) (all n b)
        by (inr e) = subst IsClosed (sym (ap (type_at (known ++ t ∷ [])) e ∙ type-behind known t)) (node-closed known x all w.0)

-- ---- tables

pub distinct-types : (look : ℕ × ℕ × ℕ → Option ℕ) (xs : List Node) → IsTable look xs → AreDistinctTypes (types_of xs)
distinct-types look xs table = record {
  apart = table.apart;
  closed = all-closed [] xs (λ n l. absurd (omega (arith, l))) table.whole;
  parts = λ n l. its_parts n (omega (arith, l, as_many xs));
}
  where
    its_parts : (n : ℕ) → n < length xs → AreAmongFirst (types_of xs) n (parts_of (type_at (types_of xs) n))
    its_parts n l =
        let known : List Open = types_of xs in
        let at = node-at xs n nodes.Unit table.whole l in
        subst (AreAmongFirst known n) (parts-are known _ at.its_parts ∙ ap parts_of (sym at.its_type)) (among-first known n _ at.its_below)

-- ---- what stands in a type

-- a type with one part, that is no instance
one : (u t whole : Open) → StandsIn u t ↔ (((u ≡ whole) × ⊥) ⊎ (StandsIn u t ⊎ ⊥))
one u t whole = (λ h. inr (inl h), back)
  where
    back : ((u ≡ whole) × ⊥) ⊎ (StandsIn u t ⊎ ⊥) → StandsIn u t
    back (inl s) = absurd s.1
    back (inr (inl h)) = h
    back (inr (inr h)) = absurd h

-- a type without parts, that is no instance
none : (u whole : Open) → ⊥ ↔ (((u ≡ whole) × ⊥) ⊎ ⊥)
none u whole = (λ h. absurd h, back)
  where
    back : ((u ≡ whole) × ⊥) ⊎ ⊥ → ⊥
    back (inl s) = s.1
    back (inr h) = h

-- a type with two parts, that is no instance
two : (u whole : Open) (A B : Type 0) → (A ⊎ B) ↔ (((u ≡ whole) × ⊥) ⊎ (A ⊎ (B ⊎ ⊥)))
two u whole A B = (there, back)
  where
    there : A ⊎ B → ((u ≡ whole) × ⊥) ⊎ (A ⊎ (B ⊎ ⊥))
    there (inl h) = inr (inl h)
    there (inr h) = inr (inr (inl h))

    back : ((u ≡ whole) × ⊥) ⊎ (A ⊎ (B ⊎ ⊥)) → A ⊎ B
    back (inl s) = absurd s.1
    back (inr (inl h)) = inl h
    back (inr (inr (inl h))) = inr h
    back (inr (inr (inr h))) = absurd h

pub stands-by-parts : StandsByParts
stands-by-parts u (leaf x) = none u (leaf x)
stands-by-parts u any_value = none u any_value
stands-by-parts u free_object = none u free_object
stands-by-parts u unit = none u unit
stands-by-parts u (tuple no_types) = none u (tuple no_types)
stands-by-parts u (tuple (more_types t ts)) = two u (tuple (more_types t ts)) (StandsIn u t) (StandsAmong u ts)
stands-by-parts u (items x t) = one u t (items x t)
stands-by-parts u (set x t) = one u t (set x t)
stands-by-parts u (map_of x k t) = two u (map_of x k t) (StandsIn u k) (StandsIn u t)
stands-by-parts u (option t) = one u t (option t)
stands-by-parts u (through x t) = one u t (through x t)
stands-by-parts u (param i) = none u (param i)
stands-by-parts u (named d ts) = (there, back)
  where
    there : (u ≡ named d ts) ⊎ StandsAmong u ts → ((u ≡ named d ts) × Unit {0}) ⊎ (StandsAmong u ts ⊎ ⊥)
    there (inl e) = inl (e, tt)
    there (inr h) = inr (inl h)

    back : ((u ≡ named d ts) × Unit {0}) ⊎ (StandsAmong u ts ⊎ ⊥) → (u ≡ named d ts) ⊎ StandsAmong u ts
    back (inl s) = inl s.0
    back (inr (inl h)) = inr h
    back (inr (inr h)) = absurd h

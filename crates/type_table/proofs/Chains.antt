-- The items of tuples, which stand one behind the other.
use Rattle.std.proofs.Common.{ℕ, ◌<◌, List, [], ◌∷◌, ◌++◌, map, ◌≡◌, refl, ap}
use Rattle.open_types.specs.Open.{Open, Opens, no_types, more_types, opens_of}
use Rattle.type_table.specs.declared.node.Node.{Node}
use Rattle.type_table.specs.declared.node.Node.TheVariants as nodes
use Rattle.type_table.specs.Nodes.{items_of, node_type}
use Rattle.type_table.specs.Types.{type_at, types_at, AllBelow}

-- the types of numbers, and others behind them
abbrev pub behind : List Open → List ℕ → Opens → Opens
behind known [] ts = ts
behind known (n ∷ ns) ts = more_types (type_at known n) (behind known ns ts)

pub behind-one : (known : List Open) (ns : List ℕ) (n : ℕ) (ts : Opens) → behind known (ns ++ n ∷ []) ts ≡ behind known ns (more_types (type_at known n) ts)
behind-one known [] n ts = refl
behind-one known (m ∷ ns) n ts = ap (more_types (type_at known m)) (behind-one known ns n ts)

pub behind-none : (known : List Open) (ns : List ℕ) → behind known ns no_types ≡ types_at known ns
behind-none known [] = refl
behind-none known (n ∷ ns) = ap (more_types (type_at known n)) (behind-none known ns)

-- the types of numbers as a list
pub types-are : (known : List Open) (ns : List ℕ) → opens_of (map (type_at known) ns) ≡ types_at known ns
types-are known [] = refl
types-are known (n ∷ ns) = ap (more_types (type_at known n)) (types-are known ns)

pub below-push : (bound : ℕ) (ns : List ℕ) (n : ℕ) → AllBelow bound ns → n < bound → AllBelow bound (ns ++ n ∷ [])
below-push bound [] n h l = (l, tt)
below-push bound (m ∷ ns) n h l = (h.0, below-push bound ns n h.1 l)

-- where a chain ends, no items are left
pub no-items : (known : List Open) (x : Node) → ((m n : ℕ) → x ≡ nodes.Item m n → ⊥) → items_of (node_type known x) ≡ no_types
no-items known (nodes.Item m n) h = absurd (h m n refl)
no-items known (nodes.Leaf x) h = refl
no-items known nodes.AnyValue h = refl
no-items known nodes.FreeObject h = refl
no-items known nodes.Unit h = refl
no-items known nodes.NoItems h = refl
no-items known (nodes.Items x n) h = refl
no-items known (nodes.Set x n) h = refl
no-items known (nodes.Map x m n) h = refl
no-items known (nodes.Option n) h = refl
no-items known (nodes.Through x n) h = refl
no-items known (nodes.Named d n) h = refl

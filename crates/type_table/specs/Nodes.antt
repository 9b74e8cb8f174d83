-- Types by the numbers of their parts, and tables of them.
use Rattle.std.specs.Prelude.{◌≡◌, ◌<◌, ℕ, List, [], ◌∷◌, ◌++◌, length, get_or, map, Option, Some}
use Rattle.type_table.specs.declared.node.Node.{Node}
use Rattle.type_table.specs.declared.node.Node.TheVariants as nodes
use Rattle.type_table.specs.declared.types.Entry.{Entry}
use Rattle.type_table.specs.Keys.{key_of}
use Rattle.type_table.specs.Types.{type_at, AllBelow, AreApart, in_word}
use Rattle.open_types.specs.Open.{Open, Opens, leaf, any_value, free_object, unit, tuple, items, set, map_of, option, through, named, no_types, more_types}
use Rattle.open_types.specs.Instances.{type_size}

-- the items of a tuple; of another type, none
abbrev pub items_of : Open → Opens
items_of (tuple ts) = ts
items_of _ = no_types

-- the type of a node, whose parts are numbers of the list
abbrev pub node_type : List Open → Node → Open
node_type known (nodes.Leaf x) = leaf x
node_type known nodes.AnyValue = any_value
node_type known nodes.FreeObject = free_object
node_type known nodes.Unit = unit
node_type known nodes.NoItems = tuple no_types
node_type known (nodes.Item m n) = tuple (more_types (type_at known m) (items_of (type_at known n)))
node_type known (nodes.Items h n) = items h (type_at known n)
node_type known (nodes.Set h n) = set h (type_at known n)
node_type known (nodes.Map h m n) = map_of h (type_at known m) (type_at known n)
node_type known (nodes.Option n) = option (type_at known n)
node_type known (nodes.Through h n) = through h (type_at known n)
node_type known (nodes.Named d n) = named d (items_of (type_at known n))

abbrev pub node_parts : Node → List ℕ
node_parts (nodes.Item m n) = m ∷ n ∷ []
node_parts (nodes.Items h n) = n ∷ []
node_parts (nodes.Set h n) = n ∷ []
node_parts (nodes.Map h m n) = m ∷ n ∷ []
node_parts (nodes.Option n) = n ∷ []
node_parts (nodes.Through h n) = n ∷ []
node_parts (nodes.Named d n) = n ∷ []
node_parts _ = []

abbrev pub IsTuple : Open → Type 0
IsTuple (tuple ts) = Unit {0}
IsTuple _ = ⊥

-- what stands behind an item, and the arguments of a declaration, are a tuple
abbrev pub HasTuple : List Open → Node → Type 0
HasTuple known (nodes.Item m n) = IsTuple (type_at known n)
HasTuple known (nodes.Named d n) = IsTuple (type_at known n)
HasTuple known _ = Unit {0}

-- the parts of the node are numbers of the list, and tuples where they must be
abbrev pub HasParts : List Open → Node → Type 0
HasParts known x = AllBelow (length known) (node_parts x) × HasTuple known x

-- the types of nodes behind those that are known, each made of the ones before it
abbrev pub types_from : List Open → List Node → List Open
types_from known [] = known
types_from known (x ∷ xs) = types_from (known ++ node_type known x ∷ []) xs

abbrev pub types_of : List Node → List Open
types_of xs = types_from [] xs

-- ---- tables

-- each node has its parts among the types before it
abbrev pub AreWhole : List Open → List Node → Type 0
AreWhole known [] = Unit {0}
AreWhole known (x ∷ xs) = HasParts known x × AreWhole (known ++ node_type known x ∷ []) xs

-- each node is found at its number, and no other node is found
pub record IsIndex (look : ℕ × ℕ × ℕ → Option ℕ) (xs : List Node) : Type 0 where
  pub there : (n : ℕ) (x : Node) → n < length xs → look (key_of (get_or xs n x)) ≡ Some n
  pub held : (x : Node) (n : ℕ) → look (key_of x) ≡ Some n → (n < length xs) × (get_or xs n x ≡ x)

pub record IsTable (look : ℕ × ℕ × ℕ → Option ℕ) (xs : List Node) : Type 0 where
  pub index : IsIndex look xs
  pub whole : AreWhole [] xs
  pub apart : AreApart (types_of xs)

-- ---- entries

abbrev pub nodes_of : List Entry → List Node
nodes_of es = map (λ e. e.node) es

-- the types of the entries
abbrev pub entry_types : List Entry → List Open
entry_types es = types_of (nodes_of es)

-- a table, with the size of each type
pub record AreEntries (look : ℕ × ℕ × ℕ → Option ℕ) (es : List Entry) : Type 0 where
  pub table : IsTable look (nodes_of es)
  pub sizes : map (λ e. e.size) es ≡ map (λ t. in_word (type_size t)) (entry_types es)

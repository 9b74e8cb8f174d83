-- Which names are reached: those that first nodes name, those that nodes of these names name, and so on.
use Rattle.std.specs.Prelude.{◌≡◌, ◌⊎◌, ◌↔◌, ℕ, List, [], ◌∷◌, map, true, Option, None}
use Rattle.texts.specs.Names.{is_in}
use Rattle.reaching.specs.declared.node.Node.{Node}
use Rattle.reaching.specs.declared.node.NodeRef.{NodeRef}

-- a borrowed node is the node
abbrev pub node_of : NodeRef → Node
node_of n = record { name = n.name.now; is_first = n.is_first; names = n.names.now }

abbrev pub nodes_of : List NodeRef → List Node
nodes_of nodes = map node_of nodes

abbrev pub IsNodeIn : List Node → Node → Type 0
IsNodeIn [] n = ⊥
IsNodeIn (m ∷ nodes) n = (m ≡ n) ⊎ IsNodeIn nodes n

-- A name is reached where a first node names it, or a node whose name is reached.
pub data IsReached (nodes : List Node) : List ℕ → Type 0 where
  by_first : (n : Node) {name : List ℕ} → IsNodeIn nodes n → n.is_first ≡ true → is_in name n.names ≡ true → IsReached nodes name
  by_reached : (n : Node) {name : List ℕ} → IsNodeIn nodes n → IsReached nodes n.name → is_in name n.names ≡ true → IsReached nodes name

-- of the names of nodes, those that are reached are not in the map
abbrev pub AreUnreached : {X : Type 0} → List Node → (List ℕ → Option X) → Type 0
AreUnreached nodes by_name = (n : Node) → IsNodeIn nodes n → (by_name n.name ≡ None) ↔ IsReached nodes n.name

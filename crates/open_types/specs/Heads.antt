-- The names of containers (The Rust Reference, "Paths"; std's collections and pointers). They count as such only with an argument list.
use Rattle.std.specs.Prelude.{ℕ, List as Items, [], ◌∷◌, Option as Maybe, Some, None, bytes_eq, cond, codes}
use Rattle.open_types.specs.declared.head.Head.{Head}
use Rattle.open_types.specs.declared.head.Head.TheVariants.{List, Set, Map, Option, Through}
use Rattle.open_types.specs.declared.open_type.ListHead.{ListHead}
use Rattle.open_types.specs.declared.open_type.ListHead.TheVariants as lists
use Rattle.open_types.specs.declared.open_type.SetHead.{SetHead}
use Rattle.open_types.specs.declared.open_type.SetHead.TheVariants as sets
use Rattle.open_types.specs.declared.open_type.MapHead.{MapHead}
use Rattle.open_types.specs.declared.open_type.MapHead.TheVariants as maps
use Rattle.open_types.specs.declared.open_type.ThroughHead.{ThroughHead}
use Rattle.open_types.specs.declared.open_type.ThroughHead.TheVariants as throughs

-- the name of a list; an array or slice is written without one, and reads as `Array`
abbrev pub list_name : ListHead → Items ℕ
list_name lists.Vec = codes "Vec"
list_name lists.LinkedList = codes "LinkedList"
list_name lists.SmallVec = codes "SmallVec"
list_name lists.Array = codes "Array"

abbrev pub set_name : SetHead → Items ℕ
set_name sets.BTreeSet = codes "BTreeSet"
set_name sets.HashSet = codes "HashSet"

abbrev pub map_name : MapHead → Items ℕ
map_name maps.HashMap = codes "HashMap"
map_name maps.BTreeMap = codes "BTreeMap"
map_name maps.Map = codes "Map"
map_name maps.IndexMap = codes "IndexMap"

abbrev pub through_name : ThroughHead → Items ℕ
through_name throughs.Cow = codes "Cow"
through_name throughs.Box = codes "Box"
through_name throughs.RefCell = codes "RefCell"
through_name throughs.Arc = codes "Arc"
through_name throughs.Rc = codes "Rc"

abbrev pub head_name : Head → Items ℕ
head_name (List head) = list_name head
head_name (Set head) = set_name head
head_name (Map head) = map_name head
head_name Option = codes "Option"
head_name (Through head) = through_name head

-- the containers that are written by their names
abbrev pub containers : Items Head
containers =
    List lists.Vec ∷ List lists.LinkedList ∷ List lists.SmallVec
    ∷ Set sets.BTreeSet ∷ Set sets.HashSet
    ∷ Map maps.HashMap ∷ Map maps.BTreeMap ∷ Map maps.Map ∷ Map maps.IndexMap
    ∷ Option
    ∷ Through throughs.Cow ∷ Through throughs.Box ∷ Through throughs.RefCell
    ∷ Through throughs.Arc ∷ Through throughs.Rc ∷ []

abbrev pub container_among : Items ℕ → Items Head → Maybe Head
container_among name [] = None
container_among name (head ∷ heads) = cond (bytes_eq name (head_name head)) (Some head) (container_among name heads)

-- the container of a name
abbrev pub container_of : Items ℕ → Maybe Head
container_of name = container_among name containers

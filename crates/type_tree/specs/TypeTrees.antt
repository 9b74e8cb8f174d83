-- Type trees, without where they lie in memory, and the tree of a written type (The Rust Reference, "Types", "Paths").
use Rattle.std.specs.Prelude.{ℕ, Bool, false, ◌||◌, List, [], ◌∷◌, map, Option, Some, None, option_map, option_and_then, bytes_eq, cond, codes, Vec}
use Rattle.std.specs.Global.{Global}
use Rattle.texts.specs.declared.span.Span.{Span}
use Rattle.written_types.specs.Written.{Written, path, reference, tuple, slice, array, trait_object, Writtens, no_types, more_types, WrittenPath, path_of, Segments, no_segments, more_segments, Segment, plain, applied, Arguments, no_arguments, more_arguments, Argument, lifetime_argument, constant_argument, type_argument, path_view}
use Rattle.leaves.specs.Leaves.{leaf_of}
use Rattle.leaves.specs.declared.leaf.Leaf.{Leaf}
use Rattle.open_types.specs.Heads.{container_of}
use Rattle.open_types.specs.declared.head.Head.{Head}
use Rattle.open_types.specs.declared.head.Head.TheVariants as heads
use Rattle.open_types.specs.declared.open_type.ListHead.TheVariants as lists
use Rattle.open_types.specs.declared.open_type.ThroughHead.TheVariants as throughs
use Rattle.type_tree.specs.declared.path.SchemaPath.{SchemaPath}
use Rattle.type_tree.specs.declared.path.SchemaPath.TheVariants as shown
use Rattle.type_tree.specs.declared.tree.ValueType.{ValueType}
use Rattle.type_tree.specs.declared.tree.ValueType.TheVariants.{Primitive, Object, Tuple, Value}
use Rattle.type_tree.specs.declared.tree.GenericType.{GenericType}
use Rattle.type_tree.specs.declared.tree.GenericType.TheVariants as kind
use Rattle.type_tree.specs.declared.tree.TypeTree.{TypeTree, fold-TypeTree}
use Rattle.type_tree.specs.declared.tree.TypeTree.TheOpen.{TypeTree-F}

-- the path of a type, or that of an array or slice
pub data TreePath : Type 0 where
  written_path : WrittenPath → TreePath
  array_path : TreePath

-- the path, the span, the two types, and the children where there are any
mutual
  pub data Tree : Type 0 where
    tree : Option TreePath → Option Span → ValueType → Option GenericType → Children → Tree

  pub data Children : Type 0 where
    childless : Children
    children : Trees → Children

  pub data Trees : Type 0 where
    no_trees : Trees
    more_trees : Tree → Trees → Trees

abbrev pub trees_of : List Tree → Trees
trees_of [] = no_trees
trees_of (t ∷ ts) = more_trees t (trees_of ts)

-- what the program's values are
abbrev pub schema_path_view : SchemaPath → TreePath
schema_path_view (shown.Written p) = written_path (path_view p.now)
schema_path_view shown.Array = array_path

abbrev pub children_view : Option (List Tree) → Children
children_view None = childless
children_view (Some ts) = children (trees_of ts)

abbrev pub tree_step : TypeTree-F Tree → Tree
tree_step t = tree (option_map schema_path_view t.path) t.span t.value_type t.generic_type (children_view (option_map (λ v. v.items) t.children))

abbrev pub tree_view : TypeTree → Tree
tree_view = fold-TypeTree Tree tree_step

abbrev pub trees_view : List TypeTree → Trees
trees_view ts = trees_of (map tree_view ts)

abbrev pub shown_children : Option (Vec TypeTree Global) → Children
shown_children cs = children_view (option_map (λ v. map tree_view v.items) cs)

-- the last of the segments, and its name
abbrev pub last_after : Segment → Segments → Segment
last_after s no_segments = s
last_after s (more_segments t ss) = last_after t ss

abbrev pub last_segment : Segments → Option Segment
last_segment no_segments = None
last_segment (more_segments s ss) = Some (last_after s ss)

abbrev pub segment_name : Segment → List ℕ
segment_name (plain x) = x.text
segment_name (applied x xs) = x.text

abbrev pub name_or_empty : Option Segment → List ℕ
name_or_empty None = []
name_or_empty (Some s) = segment_name s

-- the last identifier of a path: `Array` for arrays and slices
abbrev pub last_name : TreePath → List ℕ
last_name (written_path (path_of leading segments span)) = name_or_empty (last_segment segments)
last_name array_path = codes "Array"

abbrev pub value_type_among : List ℕ → Option Leaf → ValueType
value_type_among name (Some l) = Primitive
value_type_among name None = cond (bytes_eq name (codes "Value")) Value Object

-- the type of the values of a name
abbrev pub value_type_of : List ℕ → ValueType
value_type_of name = value_type_among name (leaf_of name)

-- the kind of a container
abbrev pub container_kind : Head → GenericType
container_kind (heads.List lists.Vec) = kind.Vec
container_kind (heads.List lists.LinkedList) = kind.LinkedList
container_kind (heads.List lists.SmallVec) = kind.SmallVec
container_kind (heads.List lists.Array) = kind.Vec
container_kind (heads.Set head) = kind.Set
container_kind (heads.Map head) = kind.Map
container_kind heads.Option = kind.Option
container_kind (heads.Through throughs.Cow) = kind.Cow
container_kind (heads.Through throughs.Box) = kind.Box
container_kind (heads.Through throughs.RefCell) = kind.RefCell
container_kind (heads.Through throughs.Arc) = kind.Arc
container_kind (heads.Through throughs.Rc) = kind.Rc

-- a container's name counts where an argument list stands
abbrev pub generic_type_of : Segment → Option GenericType
generic_type_of (plain x) = None
generic_type_of (applied x xs) = option_map container_kind (container_of x.text)

-- the unit type has no span
abbrev pub tuple_span : Writtens → Span → Option Span
tuple_span no_types s = None
tuple_span (more_types t ts) s = Some s

-- there are children where there is a tree
abbrev pub those : Trees → Children
those no_trees = childless
those (more_trees t ts) = children (more_trees t ts)

abbrev pub maybe_more : Option Tree → Trees → Trees
maybe_more None ts = ts
maybe_more (Some t) ts = more_trees t ts

-- a path with its children
abbrev pub path_node : WrittenPath → Trees → Tree
path_node (path_of leading segments s) ts =
    tree (Some (written_path (path_of leading segments s))) (Some s)
    (value_type_of (name_or_empty (last_segment segments)))
    (option_and_then generic_type_of (last_segment segments)) (those ts)

-- an array or a slice
abbrev pub array_node : Span → Tree → Tree
array_node s item = tree (Some array_path) (Some s) Object (Some kind.Vec) (children (more_trees item no_trees))

-- the children of the last segment: the first ones where no segment follows
abbrev pub of_last : Segments → Trees → Trees → Trees
of_last no_segments here later = here
of_last (more_segments s ss) here later = later

-- the tree of a written type: references are dropped, the last segment alone counts, and its types are the children
abbrev mutual
  pub tree_of : Written → Tree
  tree_of (path p) = path_tree p
  tree_of (reference t) = tree_of t
  tree_of (tuple ts s) = tree None (tuple_span ts s) Tuple None (those (item_trees ts))
  tree_of (slice t s) = array_node s (tree_of t)
  tree_of (array t s) = array_node s (tree_of t)
  tree_of (trait_object p s) = path_tree p

  pub path_tree : WrittenPath → Tree
  path_tree (path_of leading segments s) = path_node (path_of leading segments s) (segments_trees segments)

  pub segments_trees : Segments → Trees
  segments_trees no_segments = no_trees
  segments_trees (more_segments s ss) = of_last ss (segment_trees s) (segments_trees ss)

  pub segment_trees : Segment → Trees
  segment_trees (plain x) = no_trees
  segment_trees (applied x xs) = argument_trees xs

  pub argument_trees : Arguments → Trees
  argument_trees no_arguments = no_trees
  argument_trees (more_arguments a rest) = maybe_more (argument_tree a) (argument_trees rest)

  -- constants and lifetimes are no children
  pub argument_tree : Argument → Option Tree
  argument_tree (lifetime_argument x) = None
  argument_tree (constant_argument ts) = None
  argument_tree (type_argument t) = Some (tree_of t)

  pub item_trees : Writtens → Trees
  item_trees no_types = no_trees
  item_trees (more_types t ts) = more_trees (tree_of t) (item_trees ts)

-- the kind of the container
abbrev pub generic_of : Tree → Option GenericType
generic_of (tree p s v g below) = g

-- whether the last identifier of the tree, or of one below it, is the name
abbrev pub is_named : List ℕ → Option TreePath → Bool
is_named name None = false
is_named name (Some p) = bytes_eq (last_name p) name

abbrev mutual
  pub mentions : List ℕ → Tree → Bool
  mentions name (tree p s v g below) = is_named name p || child_mentions name below

  pub child_mentions : List ℕ → Children → Bool
  child_mentions name childless = false
  child_mentions name (children ts) = any_mentions name ts

  pub any_mentions : List ℕ → Trees → Bool
  any_mentions name no_trees = false
  any_mentions name (more_trees t ts) = mentions name t || any_mentions name ts

-- Nodes as three numbers, by which they are looked up.
use Rattle.std.specs.Prelude.{ℕ, ◌+◌}
use Rattle.std.specs.Ordering.{nat_cmp, ordering_then}
use Rattle.std.specs.declared.cmp.Ordering.{Ordering}
use Rattle.leaves.specs.declared.leaf.Leaf.{Leaf}
use Rattle.leaves.specs.declared.leaf.Leaf.TheVariants as leaves
use Rattle.open_types.specs.Same.{list_place, set_place, map_place, through_place}
use Rattle.type_table.specs.declared.node.Node.{Node}
use Rattle.type_table.specs.declared.node.Node.TheVariants as nodes

-- the place of a name among the eighteen
abbrev pub leaf_place : Leaf → ℕ
leaf_place leaves.String = 0
leaf_place leaves.Str = 1
leaf_place leaves.Char = 2
leaf_place leaves.Bool = 3
leaf_place leaves.I8 = 4
leaf_place leaves.I16 = 5
leaf_place leaves.I32 = 6
leaf_place leaves.I64 = 7
leaf_place leaves.I128 = 8
leaf_place leaves.Isize = 9
leaf_place leaves.U8 = 10
leaf_place leaves.U16 = 11
leaf_place leaves.U32 = 12
leaf_place leaves.U64 = 13
leaf_place leaves.U128 = 14
leaf_place leaves.Usize = 15
leaf_place leaves.F32 = 16
leaf_place leaves.F64 = 17

-- the place of a leaf or a declaration, or else the first part; the second part, or where there is none the place of the head; the kind of node
abbrev pub key_of : Node → ℕ × ℕ × ℕ
key_of (nodes.Leaf x) = (leaf_place x, 0, 0)
key_of nodes.AnyValue = (0, 0, 1)
key_of nodes.FreeObject = (0, 0, 2)
key_of nodes.Unit = (0, 0, 3)
key_of nodes.NoItems = (0, 0, 4)
key_of (nodes.Item m n) = (m, n, 5)
key_of (nodes.Option n) = (n, 0, 6)
key_of (nodes.Named d n) = (d, n, 7)
key_of (nodes.Items h n) = (n, list_place h, 8)
key_of (nodes.Set h n) = (n, set_place h, 9)
key_of (nodes.Through h n) = (n, through_place h, 10)
key_of (nodes.Map h m n) = (m, n, 11 + map_place h)

-- keys by their first number, then the second, then the third
abbrev pub key_cmp : ℕ × ℕ × ℕ → ℕ × ℕ × ℕ → Ordering
key_cmp x y = ordering_then (ordering_then (nat_cmp x.0 y.0) (nat_cmp x.1 y.1)) (nat_cmp x.2 y.2)

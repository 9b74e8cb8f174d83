-- A node is told by its key.
use Rattle.std.proofs.Common.{ℕ, ◌-◌, ◌==◌, cond, nat_cmp, Ordering, Less, Equal, Greater, ◌≡◌, refl, ap, sym, ◌∙◌}
use Rattle.std.specs.Ordering.{ordering_then}
use Rattle.std.proofs.lemmas.Cmp.{ranked, tied_itself, nat_cmp_total}
use Rattle.leaves.specs.declared.leaf.Leaf.{Leaf}
use Rattle.leaves.specs.declared.leaf.Leaf.TheVariants as leaves
use Rattle.open_types.specs.declared.open_type.ListHead.{ListHead}
use Rattle.open_types.specs.declared.open_type.ListHead.TheVariants as lists
use Rattle.open_types.specs.declared.open_type.SetHead.{SetHead}
use Rattle.open_types.specs.declared.open_type.SetHead.TheVariants as sets
use Rattle.open_types.specs.declared.open_type.MapHead.{MapHead}
use Rattle.open_types.specs.declared.open_type.MapHead.TheVariants as maps
use Rattle.open_types.specs.declared.open_type.ThroughHead.{ThroughHead}
use Rattle.open_types.specs.declared.open_type.ThroughHead.TheVariants as throughs
use Rattle.type_table.specs.declared.node.Node.{Node}
use Rattle.type_table.specs.declared.node.Node.TheVariants as nodes
use Rattle.type_table.specs.Keys.{key_of, key_cmp}

-- ---- from a key back to its node

abbrev leaf_from : ℕ → Leaf
leaf_from n = cond (n == 0) leaves.String (cond (n == 1) leaves.Str (cond (n == 2) leaves.Char (cond (n == 3) leaves.Bool (cond (n == 4) leaves.I8 (cond (n == 5) leaves.I16 (cond (n == 6) leaves.I32 (cond (n == 7) leaves.I64 (cond (n == 8) leaves.I128 (cond (n == 9) leaves.Isize (cond (n == 10) leaves.U8 (cond (n == 11) leaves.U16 (cond (n == 12) leaves.U32 (cond (n == 13) leaves.U64 (cond (n == 14) leaves.U128 (cond (n == 15) leaves.Usize (cond (n == 16) leaves.F32 leaves.F64))))))))))))))))

abbrev list_from : ℕ → ListHead
list_from n = cond (n == 0) lists.Vec (cond (n == 1) lists.LinkedList (cond (n == 2) lists.SmallVec lists.Array))

abbrev set_from : ℕ → SetHead
set_from n = cond (n == 0) sets.BTreeSet sets.HashSet

abbrev map_from : ℕ → MapHead
map_from n = cond (n == 0) maps.HashMap (cond (n == 1) maps.BTreeMap (cond (n == 2) maps.Map maps.IndexMap))

abbrev through_from : ℕ → ThroughHead
through_from n = cond (n == 0) throughs.Cow (cond (n == 1) throughs.Box (cond (n == 2) throughs.RefCell (cond (n == 3) throughs.Arc throughs.Rc)))

abbrev node_from : ℕ × ℕ × ℕ → Node
node_from k = cond (k.2 == 0) (nodes.Leaf (leaf_from k.0)) (cond (k.2 == 1) nodes.AnyValue (cond (k.2 == 2) nodes.FreeObject (cond (k.2 == 3) nodes.Unit (cond (k.2 == 4) nodes.NoItems (cond (k.2 == 5) (nodes.Item k.0 k.1) (cond (k.2 == 6) (nodes.Option k.0) (cond (k.2 == 7) (nodes.Named k.0 k.1) (cond (k.2 == 8) (nodes.Items (list_from k.1) k.0) (cond (k.2 == 9) (nodes.Set (set_from k.1) k.0) (cond (k.2 == 10) (nodes.Through (through_from k.1) k.0) (nodes.Map (map_from (k.2 - 11)) k.0 k.1)))))))))))

back : (n : Node) → node_from (key_of n) ≡ n
back (nodes.Leaf leaves.String) = refl
back (nodes.Leaf leaves.Str) = refl
back (nodes.Leaf leaves.Char) = refl
back (nodes.Leaf leaves.Bool) = refl
back (nodes.Leaf leaves.I8) = refl
back (nodes.Leaf leaves.I16) = refl
back (nodes.Leaf leaves.I32) = refl
back (nodes.Leaf leaves.I64) = refl
back (nodes.Leaf leaves.I128) = refl
back (nodes.Leaf leaves.Isize) = refl
back (nodes.Leaf leaves.U8) = refl
back (nodes.Leaf leaves.U16) = refl
back (nodes.Leaf leaves.U32) = refl
back (nodes.Leaf leaves.U64) = refl
back (nodes.Leaf leaves.U128) = refl
back (nodes.Leaf leaves.Usize) = refl
back (nodes.Leaf leaves.F32) = refl
back (nodes.Leaf leaves.F64) = refl
back nodes.AnyValue = refl
back nodes.FreeObject = refl
back nodes.Unit = refl
back nodes.NoItems = refl
back (nodes.Item i j) = refl
back (nodes.Option i) = refl
back (nodes.Named d j) = refl
back (nodes.Items lists.Vec i) = refl
back (nodes.Items lists.LinkedList i) = refl
back (nodes.Items lists.SmallVec i) = refl
back (nodes.Items lists.Array i) = refl
back (nodes.Set sets.BTreeSet i) = refl
back (nodes.Set sets.HashSet i) = refl
back (nodes.Through throughs.Cow i) = refl
back (nodes.Through throughs.Box i) = refl
back (nodes.Through throughs.RefCell i) = refl
back (nodes.Through throughs.Arc i) = refl
back (nodes.Through throughs.Rc i) = refl
back (nodes.Map maps.HashMap k i) = refl
back (nodes.Map maps.BTreeMap k i) = refl
back (nodes.Map maps.Map k i) = refl
back (nodes.Map maps.IndexMap k i) = refl

pub one-key : (a b : Node) → key_of a ≡ key_of b → a ≡ b
one-key a b e = sym (back a) ∙ ap node_from e ∙ back b

-- ---- the order of keys ties only what is equal

both-tie : (a b : Ordering) → ordering_then a b ≡ Equal → (a ≡ Equal) × (b ≡ Equal)
both-tie Less b e = cc
both-tie Equal b e = (refl, e)
both-tie Greater b e = cc

number-tie : (i j : ℕ) → nat_cmp i j ≡ Equal → i ≡ j
number-tie i j e = ranked i j Equal (sym e)

pub key-tie : (x y : ℕ × ℕ × ℕ) → key_cmp x y ≡ Equal → x ≡ y
key-tie x y e =
    let last = both-tie (ordering_then (nat_cmp x.0 y.0) (nat_cmp x.1 y.1)) (nat_cmp x.2 y.2) e in
    let first = both-tie (nat_cmp x.0 y.0) (nat_cmp x.1 y.1) last.0 in
    λ i. (number-tie x.0 y.0 first.0 i, number-tie x.1 y.1 first.1 i, number-tie x.2 y.2 last.1 i)

pub key-itself : (x : ℕ × ℕ × ℕ) → key_cmp x x ≡ Equal
key-itself x =
    (λ i. ordering_then (ordering_then (tied_itself nat_cmp_total x.0 i) (tied_itself nat_cmp_total x.1 i)) (tied_itself nat_cmp_total x.2 i))

-- Small tables, computed.
use Rattle.std.proofs.Common.{◌<◌, List, [], ◌∷◌, Some, None, Less, Greater, ◌≡◌, refl, arith}
use Rattle.leaves.specs.declared.leaf.Leaf.TheVariants as leaves
use Rattle.open_types.specs.declared.open_type.ListHead.TheVariants as lists
use Rattle.open_types.specs.declared.open_type.MapHead.TheVariants as maps
use Rattle.open_types.specs.Open.{Open, Opens, leaf, unit, tuple, items, map_of, option, named, no_types, more_types}
use Rattle.type_table.specs.declared.node.Node.{Node}
use Rattle.type_table.specs.declared.node.Node.TheVariants as nodes
use Rattle.type_table.specs.Keys.{leaf_place, key_of, key_cmp}
use Rattle.type_table.specs.Nodes.{items_of, node_parts, types_of, HasParts, AreWhole}
use Rattle.type_table.specs.Types.{type_at, types_at, IsFront, IsFound, found, declaration_of, in_word, parts_of, numbers_in, AreApart}

abbrev u8 : Open
u8 = leaf leaves.U8

abbrev truth : Open
truth = leaf leaves.Bool

abbrev two : Open → Open → Opens
two s t = more_types s (more_types t no_types)

-- struct Pair<A, B> { .. } at bool and u8: its arguments are the tuple (bool, u8), behind which stand (u8) and the tuple without items
abbrev pair : List Node
pair = nodes.NoItems ∷ nodes.Leaf leaves.U8 ∷ nodes.Item 1 0 ∷ nodes.Leaf leaves.Bool ∷ nodes.Item 3 2 ∷ nodes.Named 2 4 ∷ []

abbrev its_types : List Open
its_types = tuple no_types ∷ u8 ∷ tuple (more_types u8 no_types) ∷ truth ∷ tuple (two truth u8) ∷ named 2 (two truth u8) ∷ []

pair_types : types_of pair ≡ its_types
pair_types = refl

pair_whole : AreWhole [] pair
pair_whole = (
  (tt, tt),
  (
    (tt, tt),
    (
      ((omega arith, (omega arith, tt)), tt),
      ((tt, tt), (((omega arith, (omega arith, tt)), tt), (((omega arith, tt), tt), tt))),
    ),
  ),
)

pair_parts : (parts_of (named 2 (two truth u8)) ≡ tuple (two truth u8) ∷ []) × (parts_of (tuple (two truth u8)) ≡ truth ∷ tuple (more_types u8 no_types) ∷ [])
pair_parts = (refl, refl)

pair_declared : (declaration_of (named 2 (two truth u8)) ≡ Some 2) × (declaration_of (option (named 2 no_types)) ≡ None)
pair_declared = (refl, refl)

found_last : IsFound its_types (named 2 (two truth u8)) (Some 5)
found_last = found 5 (omega arith) refl

-- ---- the unit is not the tuple without items, and a part has to be there
unlike : ¬ (unit ≡ tuple no_types)
unlike e = cc

no_tuple : ¬ HasParts (unit ∷ []) (nodes.Named 0 0)
no_tuple h = h.1

no_part : ¬ HasParts [] (nodes.Option 0)
no_part h = let l : 0 < 0 = h.0.0 in omega (arith, l)

twice : ¬ AreApart (u8 ∷ u8 ∷ [])
twice apart = let e : 0 ≡ 1 = apart 0 1 (omega arith) (omega arith) refl in omega (arith, e)

past_the_end : (type_at (u8 ∷ []) 1 ≡ unit) × (items_of unit ≡ no_types)
past_the_end = (refl, refl)

-- ---- HashMap<String, Vec<bool>>
map_parts : parts_of (map_of maps.HashMap (leaf leaves.String) (items lists.Vec truth)) ≡ leaf leaves.String ∷ items lists.Vec truth ∷ []
map_parts = refl

map_numbers : (node_parts (nodes.Map maps.HashMap 0 4) ≡ 0 ∷ 4 ∷ []) × (numbers_in (Some 0, Some 4) ≡ 0 ∷ 4 ∷ []) × (numbers_in (None, None) ≡ [])
map_numbers = (refl, refl, refl)

arguments : types_at (u8 ∷ truth ∷ []) (1 ∷ 0 ∷ []) ≡ two truth u8
arguments = refl

front : IsFront (u8 ∷ []) (u8 ∷ truth ∷ [])
front = (truth ∷ [], refl)

-- ---- keys, by parts and then by what is made of them; sizes
keys : (key_of (nodes.Item 2 1) ≡ (2, 1, 5)) × (key_of (nodes.Items lists.SmallVec 4) ≡ (4, 2, 8)) × (key_of (nodes.Map maps.BTreeMap 4 5) ≡ (4, 5, 12)) × (leaf_place leaves.F64 ≡ 17)
keys = (refl, refl, refl, refl)

order : (key_cmp (key_of (nodes.Option 3)) (key_of (nodes.Option 4)) ≡ Less) × (key_cmp (key_of (nodes.Option 4)) (key_of (nodes.Named 4 0)) ≡ Less) × (key_cmp (key_of (nodes.Item 1 1)) (key_of (nodes.Item 1 0)) ≡ Greater)
order = (refl, refl, refl)

small : in_word 257 ≡ 257
small = refl

-- Small sources, computed: what is reached, and what is plain.
use Rattle.std.proofs.Common.{List, [], ◌∷◌, true, false, codes, pos, ◌≡◌, refl, inl, inr, arith}
use Rattle.acceptance.specs.Json.{Json, number, list, no_items, item, map, no_members, member}
use Rattle.leaves.specs.declared.leaf.Leaf.TheVariants.{I32, F32, Bool as BoolLeaf}
use Rattle.open_types.specs.declared.open_type.ListHead.TheVariants.{Vec}
use Rattle.open_types.specs.declared.open_type.ThroughHead.TheVariants.{Box}
use Rattle.open_types.specs.Open.{Open, leaf, items, through, param, named, no_types}
use Rattle.shapes.specs.Declarations.{DeclarationOf}
use Rattle.shapes.specs.Plain.{IsPlainType}
use Rattle.shapes.specs.Instances.{places_at}
use Rattle.shapes.specs.InstanceShape.{shape, HasShape, Reaches, itself, through_place, IsPlain, IsRoot, IsReachable, root, stands}
use Rattle.shapes.proofs.Examples.{a_member, a_struct, one}

-- struct Tree<T> { v: T, kids: Vec<Box<Tree<T>>> } at i32: it stands in its own places, and each kid is a step deeper
abbrev trees : List DeclarationOf
trees = a_struct (codes "Tree") 1 (a_member (codes "v") true (param 0) ∷ a_member (codes "kids") true (items Vec (through Box (named 0 (one (param 0))))) ∷ []) ∷ []

abbrev tree_i32 : Open
tree_i32 = named 0 (one (leaf I32))

tree_places : places_at trees tree_i32 ≡ leaf I32 ∷ items Vec (through Box tree_i32) ∷ []
tree_places = refl

tree_reaches : Reaches trees tree_i32 tree_i32
tree_reaches = through_place tree_i32 tree_i32 tree_i32 (inr (inl (inl refl))) (itself tree_i32)

abbrev a_tree : Json → Json
a_tree kids = map (member (codes "v") (number (pos 1)) (member (codes "kids") kids no_members))

abbrev two_deep : Json
two_deep = a_tree (list (item (a_tree (list no_items)) no_items))

one_step : shape trees 1 tree_i32 two_deep ≡ false
one_step = refl

two_steps : HasShape trees tree_i32 two_deep
two_steps = (2, refl)

-- struct Ph<T> { a: bool } at f32: no float is in its places, so it is plain; a place of it is not
abbrev phantoms : List DeclarationOf
phantoms = a_struct (codes "Ph") 1 (a_member (codes "a") true (leaf BoolLeaf) ∷ []) ∷ []

abbrev ph_f32 : Open
ph_f32 = named 0 (one (leaf F32))

ph_places : places_at phantoms ph_f32 ≡ leaf BoolLeaf ∷ []
ph_places = refl

ph_plain : IsPlain phantoms ph_f32
ph_plain u (itself t) = (((λ e. cc), tt), tt)
ph_plain u (through_place t w v (inl s) r) = absurd s
ph_plain u (through_place t w v (inr s) r) = absurd s

not_in_a_place : ¬ IsPlainType phantoms ph_f32
not_in_a_place h = h.0 refl

-- struct P<T> { t: T }  struct R { p: P<P<bool>> }: P<bool> is reached through an argument
abbrev nested : List DeclarationOf
nested = a_struct (codes "P") 1 (a_member (codes "t") true (param 0) ∷ []) ∷ a_struct (codes "R") 0 (a_member (codes "p") true (named 0 (one (named 0 (one (leaf BoolLeaf))))) ∷ []) ∷ []

abbrev p_bool : Open
p_bool = named 0 (one (leaf BoolLeaf))

r_root : IsRoot nested 1
r_root = (omega arith, refl)

p_no_root : ¬ IsRoot nested 0
p_no_root h = let e : 1 ≡ 0 = h.1 in omega (arith, e)

p_p_reachable : IsReachable nested (named 0 (one p_bool))
p_p_reachable = stands (named 1 no_types) (named 0 (one p_bool)) (root 1 r_root) (inl (inl refl))

p_reachable : IsReachable nested p_bool
p_reachable = stands (named 1 no_types) p_bool (root 1 r_root) (inl (inr (inl (inl refl))))

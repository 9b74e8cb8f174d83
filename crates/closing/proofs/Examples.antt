-- Small sources, computed: what is inline and what is referred to, components, and schemas.
use Rattle.std.proofs.Common.{ℕ, List, [], ◌∷◌, true, false, codes, ◌≡◌, refl, inl, arith}
use Rattle.schema_trees.specs.declared.tree.TypeWord.TheVariants.{Any}
use Rattle.schema_trees.specs.declared.tree.RefLeaf.{RefLeaf}
use Rattle.schema_trees.specs.Annotations.{no_annotations}
use Rattle.schema_trees.specs.Objects.{only_word}
use Rattle.schema_trees.specs.Schema.{SchemaOf, leaf, no_properties, property, no_part}
use Rattle.open_types.specs.Open.{Open, any_value, tuple, param, named, no_types, more_types}
use Rattle.component.specs.Places.{inside, place}
use Rattle.shapes.specs.Declarations.{alone, named_fields, unnamed_fields, fields, FormOf, DeclarationOf, unannotated}
use Rattle.terms.specs.Terms.{object_of}
use Rattle.shapes.specs.InstanceNames.{instance_name}
use Rattle.closing.specs.Closed as closed
use Rattle.closing.specs.Links.{inline_in, referred_in, targets_at, references_at, inlining_of, shown_root, shown_inline, IsComponent, referred_component}
use Rattle.closing.specs.Closed.{closed, instance_schema}
use Rattle.closing.specs.Described.{IsInlinePath, HasInline, here, through_target, closed_place}

abbrev pub declares : List ℕ → ℕ → FormOf → DeclarationOf
declares name parameters form = record { name = name; parameters = parameters; annotations = unannotated; body = fields form }

abbrev pub with_v : Open → FormOf
with_v t = named_fields (alone false) (record { name = codes "v"; required = true; annotations = unannotated; of = t } ∷ [])

abbrev an_object : SchemaOf RefLeaf → SchemaOf RefLeaf
an_object s = object_of no_annotations no_part (codes "v" ∷ []) (property (codes "v") s no_properties)

abbrev a_reference : List ℕ → SchemaOf RefLeaf
a_reference name = leaf (record { name = name; annotations = no_annotations })

abbrev pub at : ℕ → Open → Open
at d t = named d (more_types t no_types)

-- struct Page<T> { v: T }  struct Item<T> { v: T }  struct R { v: Page<Item<Value>> }
abbrev item : Open
item = at 1 any_value

abbrev page : Open
page = at 0 item

abbrev pub r : Open
r = named 2 no_types

abbrev pages : List DeclarationOf
pages = declares (codes "Page") 1 (with_v (param 0)) ∷ declares (codes "Item") 1 (with_v (param 0)) ∷ declares (codes "R") 0 (with_v page) ∷ []

links_of_r : (targets_at pages r ≡ []) × (references_at pages r ≡ page ∷ [])
links_of_r = (refl, refl)

links_of_page : (targets_at pages page ≡ item ∷ []) × (references_at pages page ≡ [])
links_of_page = (refl, refl)

page_component : IsComponent pages false page
page_component = referred_component r page (shown_root 2 (omega arith, refl)) (inl refl)

r_schema : instance_schema pages r ≡ an_object (a_reference (codes "Page_Item_Value"))
r_schema = refl

page_schema : instance_schema pages page ≡ an_object (an_object (only_word Any no_annotations))
page_schema = refl

-- a place of Item<Value>: of a field, and of an argument
item_field : (closed_place pages false item ≡ a_reference (codes "Item_Value")) × (referred_in (place (inside false) item) ≡ item ∷ [])
item_field = (refl, refl)

item_argument : (closed_place pages true item ≡ instance_schema pages item) × (inline_in (place (inside true) item) ≡ item ∷ [])
item_argument = (refl, refl)

-- struct G<T> { v: P<T> }  struct P<T> { v: T }  struct R { v: (G<Value>, Value) }: P<Value> is a component through what is inline in R
abbrev g : Open
g = at 0 any_value

abbrev p : Open
p = at 1 any_value

abbrev tuples : List DeclarationOf
tuples = declares (codes "G") 1 (with_v (at 1 (param 0))) ∷ declares (codes "P") 1 (with_v (param 0)) ∷ declares (codes "R") 0 (with_v (tuple (more_types g (more_types any_value no_types)))) ∷ []

inline_in_r : (targets_at tuples r ≡ g ∷ []) × (references_at tuples r ≡ []) × (references_at tuples g ≡ p ∷ [])
inline_in_r = (refl, refl, refl)

numbers : inlining_of tuples (r ∷ g ∷ p ∷ []) ≡ (1 ∷ []) ∷ [] ∷ [] ∷ []
numbers = refl

a_path : IsInlinePath tuples (r ∷ g ∷ []) × HasInline tuples r g
a_path = ((inl refl, tt), through_target r g g (inl refl) (here g))

p_component : IsComponent tuples false p
p_component = referred_component g p (shown_inline r g (shown_root 2 (omega arith, refl)) (inl refl)) (inl refl)

-- to depth 0 no schema is made
depth_zero : (closed tuples 0 g ≡ closed.any_value) × (instance_name tuples g ≡ codes "G_Value")
depth_zero = (refl, refl)

-- struct V<T>(T, T);  struct W<T>(T, U);  struct U { v: Value }: alike fields count once, and at U only the argument is inline
abbrev u : Open
u = named 2 no_types

abbrev unnamed : List DeclarationOf
unnamed = declares (codes "V") 1 (unnamed_fields (param 0 ∷ param 0 ∷ [])) ∷ declares (codes "W") 1 (unnamed_fields (param 0 ∷ u ∷ [])) ∷ declares (codes "U") 0 (with_v any_value) ∷ []

once : (targets_at unnamed (at 0 u) ≡ u ∷ []) × (targets_at unnamed (at 1 u) ≡ u ∷ []) × (references_at unnamed (at 1 u) ≡ u ∷ [])
once = (refl, refl, refl)

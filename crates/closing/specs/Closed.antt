-- The schemas of instances: their terms, where each name is a reference or, where it is inline, the schema of its instance.
use Rattle.std.specs.Prelude.{ℕ, zero, suc, List, [], ◌∷◌, true, false, Option, Some, None}
use Rattle.schema_trees.specs.declared.tree.RefLeaf.{RefLeaf}
use Rattle.schema_trees.specs.declared.tree.TypeWord.TheVariants.{Any}
use Rattle.schema_trees.specs.Annotations.{no_annotations}
use Rattle.schema_trees.specs.Objects.{only_word}
use Rattle.schema_trees.specs.Schema.{SchemaOf, leaf, bind}
use Rattle.open_types.specs.Open.{Open}
use Rattle.component.specs.Leaves.{LeafOf, param, named}
use Rattle.shapes.specs.Declarations.{DeclarationOf}
use Rattle.terms.specs.InstanceTerms.{instance_term}
use Rattle.shapes.specs.InstanceNames.{instance_name}
use Rattle.instances.specs.Lists.{number_in}

-- an inline path has at most so many instances
abbrev pub most_inlined : ℕ
most_inlined = 32

-- nothing is said
abbrev pub any_value : SchemaOf RefLeaf
any_value = only_word Any no_annotations

-- the schema at a place of the list; past the end, one that says nothing
abbrev pub schema_in : List (SchemaOf RefLeaf) → ℕ → SchemaOf RefLeaf
schema_in [] n = any_value
schema_in (s ∷ made) zero = s
schema_in (s ∷ made) (suc n) = schema_in made n

-- What stands at a leaf of an instance's term: the schema of the instance that it names where that is inline, else a reference to its component. A parameter that is left is any value.
abbrev pub put : List DeclarationOf → (Open → SchemaOf RefLeaf) → LeafOf → SchemaOf RefLeaf
put ss inner (param i) = any_value
put ss inner (named t true annotations) = inner t
put ss inner (named t false annotations) = leaf (record { name = instance_name ss t; annotations = annotations })

-- the schema of an instance, where schemas stand in it no deeper than the number
abbrev pub closed : List DeclarationOf → ℕ → Open → SchemaOf RefLeaf
closed ss zero t = any_value
closed ss (suc n) t = bind (put ss (closed ss n)) (instance_term ss t)

-- the schema of the instance, where the list has the schemas of instances by number; of one that has no number, any value
abbrev pub schema_of : List (SchemaOf RefLeaf) → Option ℕ → SchemaOf RefLeaf
schema_of made None = any_value
schema_of made (Some n) = schema_in made n

abbrev pub made_at : List Open → List (SchemaOf RefLeaf) → Open → SchemaOf RefLeaf
made_at is made t = schema_of made (number_in is t)

-- The schema of an instance; where it is a component, this is the component's.
abbrev pub instance_schema : List DeclarationOf → Open → SchemaOf RefLeaf
instance_schema ss t = closed ss most_inlined t

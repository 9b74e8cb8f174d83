-- A schema with others put at its leaves, part by part.
use Rattle.std.proofs.Common.{ℕ, ◌+◌, ◌<◌, List, [], ◌∷◌, ◌++◌, length, get_or, take, map, ◌≡◌, refl, ap, sym, ◌∙◌, rules}
use Rattle.std.proofs.lemmas.List.{take_more, map_push}
use Rattle.schema_trees.specs.declared.tree.Tree.{Tree, the_lemmas}
use Rattle.schema_trees.specs.declared.tree.Object.{Object}
use Rattle.schema_trees.specs.Schema.{object_facts, SchemaOf, object, property, schema, bind, bind_schemas, bind_properties, tree_view, tree_views, named_views, object_view, additional_view, optional_view, schemas_of, properties_of}

module _ {L X : Type 0} (m : L → X) where
  -- an object by its fields
  pub object_view-is : (o : Object L) → object_view m o ≡ object (object_facts o) (named_views m o.properties) (additional_view m o.additional) (optional_view m o.property_names)
  object_view-is o = search (rules, the_lemmas)

  module _ {Y : Type 0} (f : X → SchemaOf Y) where
    abbrev pub filled_of : Tree L → SchemaOf Y
    filled_of t = bind f (tree_view m t)

    abbrev pub property_of : List ℕ × Tree L → List ℕ × SchemaOf Y
    property_of p = (p.0, bind f (tree_view m p.1))

    pub schemas_are : (ts : List (Tree L)) → schemas_of (map filled_of ts) ≡ bind_schemas f (tree_views m ts)
    schemas_are [] = refl
    schemas_are (t ∷ ts) = ap (schema (filled_of t)) (schemas_are ts)

    pub properties_are : (ps : List (List ℕ × Tree L)) → properties_of (map property_of ps) ≡ bind_properties f (named_views m ps)
    properties_are [] = refl
    properties_are (p ∷ ps) = ap (property p.0 (filled_of p.1)) (properties_are ps)

-- the results so far, and one more
pub one_more : {A B C : Type 0} (f : A → C) (g : B → C) (items : List B) (i : ℕ) (item : B) (made : List A) (y : A) → i < length items → item ≡ get_or items i item →
    map f made ≡ map g (take i items) → f y ≡ g item → map f (made ++ y ∷ []) ≡ map g (take (i + 1) items)
one_more f g items i item made y l is e h =
    map_push f made y
    ∙ ap (λ zs. zs ++ f y ∷ []) e
    ∙ ap (λ z. map g (take i items) ++ z ∷ []) (h ∙ ap g is)
    ∙ sym (map_push g (take i items) (get_or items i item))
    ∙ ap (map g) (sym (take_more items i item l))

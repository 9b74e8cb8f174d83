-- The declarations at the leaves of a place's schema.
use Rattle.std.proofs.Common.{ℕ, List, [], ◌∷◌, ◌++◌, Bool, true, false, cond, Option, Some, None, ◌≡◌, refl, ap, ◌∙◌}
use Rattle.schema_trees.specs.Annotations.{no_annotations, described}
use Rattle.schema_trees.specs.Schema as tree
use Rattle.open_types.specs.Open.{Open, Opens, leaf, any_value, free_object, unit, tuple, items, set, map_of, option, through, param, named, no_types, more_types}
use Rattle.component.specs.Leaves.{LeafOf}
use Rattle.component.specs.Leaves as leaves
use Rattle.component.specs.Places.{PlaceOf, inside, with_null, or_null, in_place, leaf_at, place, inline_places}
use Rattle.component.specs.References.{references, item_references, leaf_references, named_leaves, schema_leaves}

append_none : {A : Type 0} (xs : List A) → xs ++ [] ≡ xs
append_none [] = refl
append_none (x ∷ xs) = ap (λ ys. x ∷ ys) (append_none xs)

or_null-leaves : (nullable : Bool) (x : LeafOf) → named_leaves (or_null nullable (tree.leaf x)) ≡ leaf_references x
or_null-leaves false x = refl
or_null-leaves true x = append_none (leaf_references x)

in_place-leaves : (nullable : Bool) (description : Option (List ℕ)) (x : LeafOf) → named_leaves (in_place nullable description (tree.leaf x)) ≡ leaf_references x
in_place-leaves false None x = refl
in_place-leaves false (Some text) x = append_none (leaf_references x)
in_place-leaves true description x = append_none (leaf_references x)

leaf-leaves : (at : PlaceOf) (x : LeafOf) → named_leaves (leaf_at at x) ≡ leaf_references x
leaf-leaves at x = by at.inline
  where
    by : (inline : Bool) → named_leaves (cond inline (in_place at.nullable at.description (tree.leaf x)) (or_null at.nullable (tree.leaf x))) ≡ leaf_references x
    by true = in_place-leaves at.nullable at.description x
    by false = or_null-leaves at.nullable x

mutual
  pub place-leaves : (at : PlaceOf) (t : Open) → named_leaves (place at t) ≡ references at.inline t
  place-leaves at (leaf x) = refl
  place-leaves at any_value = refl
  place-leaves at free_object = refl
  place-leaves at unit = refl
  place-leaves at (tuple ts) = append_none (schema_leaves (inline_places ts)) ∙ items-leaves ts
  place-leaves at (items h t) = place-leaves (inside at.inline) t
  place-leaves at (set h t) = place-leaves (inside at.inline) t
  place-leaves at (map_of h k t) = λ i. place-leaves (inside true) k i ++ place-leaves (inside at.inline) t i
  place-leaves at (option t) = place-leaves (with_null at) t
  place-leaves at (through h t) = place-leaves at t
  place-leaves at (param j) = leaf-leaves at (leaves.param j)
  place-leaves at (named d ts) = leaf-leaves at (leaves.named (named d ts) at.inline (cond at.inline no_annotations (described at.description)))

  items-leaves : (ts : Opens) → schema_leaves (inline_places ts) ≡ item_references ts
  items-leaves no_types = refl
  items-leaves (more_types t ts) = λ i. place-leaves (inside true) t i ++ items-leaves ts i

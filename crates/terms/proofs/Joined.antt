-- The schemas of what is flattened, and others behind them.
use Rattle.std.proofs.Common.{List, [], ◌∷◌, ◌++◌, Bool, false, Option, None, Some, map, ◌≡◌, ◌∙◌, refl, ap, Box}
use Rattle.std.specs.Global.{Global}
use Rattle.std.proofs.lemmas.List.{map-append}
use Rattle.schema_trees.specs.declared.tree.Tree.{Tree}
use Rattle.schema_trees.specs.Schema.{SchemaOf, SchemasOf, no_schemas, schema, schemas_of, tree_views}
use Rattle.open_types.specs.Open.{open_view}
use Rattle.component.specs.declared.term.TermLeaf.{TermLeaf}
use Rattle.component.specs.Leaves.{LeafOf, leaf_view, term_view}
use Rattle.shapes.specs.declared.declaration.Flattened.{Flattened}
use Rattle.shapes.specs.declared.declaration.Beside.{Beside}
use Rattle.shapes.specs.Declarations.{MemberOf, FlattenedOf, FlattenedMapOf, Others}
use Rattle.shapes.specs.Views.{flattened_view, beside_view}
use Rattle.terms.specs.Terms.{field_term, own_beside, flattened_terms}

-- the schema of a flattened field
abbrev pub flattened_in : Flattened → SchemaOf LeafOf
flattened_in f = field_term f.annotations (open_view f.ty)

pub flattened_are : (fs : List Flattened) → schemas_of (map flattened_in fs) ≡ flattened_terms (map flattened_view fs) no_schemas
flattened_are [] = refl
flattened_are (f ∷ fs) = ap (schema (flattened_in f)) (flattened_are fs)

-- ---- one list behind another

abbrev pub joined : SchemasOf LeafOf → SchemasOf LeafOf → SchemasOf LeafOf
joined no_schemas more = more
joined (schema s ss) more = schema s (joined ss more)

schemas-joined : (xs ys : List (SchemaOf LeafOf)) → schemas_of (xs ++ ys) ≡ joined (schemas_of xs) (schemas_of ys)
schemas-joined [] ys = refl
schemas-joined (x ∷ xs) ys = ap (schema x) (schemas-joined xs ys)

pub views-joined : (xs ys : List (Tree TermLeaf)) → tree_views leaf_view (xs ++ ys) ≡ joined (tree_views leaf_view xs) (tree_views leaf_view ys)
views-joined xs ys = ap schemas_of (map-append term_view xs ys) ∙ schemas-joined (map term_view xs) (map term_view ys)

pub flattened-joined : (fs : List FlattenedOf) (some more : SchemasOf LeafOf) → joined (flattened_terms fs some) more ≡ flattened_terms fs (joined some more)
flattened-joined [] some more = refl
flattened-joined (f ∷ fs) some more = ap (schema (field_term f.annotations f.of)) (flattened-joined fs some more)

pub own-joined : (x : Option FlattenedMapOf) (o : Others) (ms : List MemberOf) (more : SchemasOf LeafOf) → joined (own_beside x o ms no_schemas) more ≡ own_beside x o ms more
own-joined None o [] more = refl
own-joined None o (m ∷ ms) more = refl
own-joined (Some x) o ms more = refl

-- ---- what is flattened stands there, whether others are denied or not

pub whatever-denied : (denies : Bool) (b : Option (Box Beside Global)) → (beside_view false b).flattened ≡ (beside_view denies b).flattened
whatever-denied denies None = refl
whatever-denied denies (Some b) = refl

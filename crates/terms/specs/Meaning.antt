-- What the terms of declarations accept.
use Rattle.std.specs.Prelude.{◌≡◌, ◌&&◌, ◌||◌, ℕ, List, Bool, true, false, IsTrue}
use Rattle.acceptance.specs.Json.{Json}
use Rattle.schema_core.specs.Meaning.{tree_accepts}
use Rattle.component.specs.Leaves.{LeafOf, param, named}
use Rattle.component.specs.Places.{PlaceOf, place}
use Rattle.open_types.specs.Open.{Open, Opens}
use Rattle.open_types.specs.Open as types
use Rattle.shapes.specs.Declarations.{DeclarationOf, declaration_at}
use Rattle.terms.specs.Terms.{term}
use Rattle.shapes.specs.Instances.{body_over}
use Rattle.terms.specs.InstanceTerms.{term_over}
use Rattle.shapes.specs.Shape.{is_null, is_map, type_shape, body_shape}
use Rattle.shapes.specs.Plain.{IsPlainType, IsOpenMap, IsPlainBody}

-- what a leaf accepts: at a name what has the shape of the instance, inline or not; at a parameter nothing
abbrev pub leaf_shape : (Open → Json → Bool) → LeafOf → Json → Bool
leaf_shape instance (param i) v = false
leaf_shape instance (named t inline keywords) v = instance t v

-- what has the shape of an open struct, or of an open enum with a tag, is a map
abbrev pub HoldMaps : List DeclarationOf → (Open → Json → Bool) → Type 0
HoldMaps ss instance = (d : ℕ) (ts : Opens) → IsOpenMap (declaration_at ss d).body → (v : Json) → IsTrue (instance (types.named d ts) v) → IsTrue (is_map v (λ es. true))

-- The law: the term of a declaration with a plain body accepts what has the body's shape, where each leaf accepts what has the shape of its instance.
abbrev pub TermsAccept : Type 0
TermsAccept = (ss : List DeclarationOf) (instance : Open → Json → Bool) → HoldMaps ss instance → (s : DeclarationOf) → IsPlainBody ss s.body → (v : Json) → tree_accepts (leaf_shape instance) (term s) v ≡ body_shape instance s.body v

-- The law: the term of a declaration, where its arguments' schemas are put at its parameters, accepts what has the shape of its body with these arguments, where that is plain.
abbrev pub InstanceTermsAccept : Type 0
InstanceTermsAccept = (ss : List DeclarationOf) (instance : Open → Json → Bool) → HoldMaps ss instance → (args : Opens) (s : DeclarationOf) → IsPlainBody ss (body_over args s.body) → (v : Json) →
    tree_accepts (leaf_shape instance) (term_over args s) v ≡ body_shape instance (body_over args s.body) v

-- The law: the schema of a place of a closed plain type accepts null where it may be, and what has the shape of the type, whether names are inline there or not.
abbrev pub PlacesAccept : Type 0
PlacesAccept = (ss : List DeclarationOf) (instance : Open → Json → Bool) (at : PlaceOf) (t : Open) → IsPlainType ss t → (v : Json) →
    tree_accepts (leaf_shape instance) (place at t) v ≡ ((at.nullable && is_null v) || type_shape instance t v)

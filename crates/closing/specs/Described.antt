-- The components of instances, and what their document says.
use Rattle.std.specs.Prelude.{◌≡◌, ◌<◌, ◌↔◌, ℕ, List, [], ◌∷◌, length, Bool, true, false, Some, is_some, IsTrue}
use Rattle.acceptance.specs.Json.{Json}
use Rattle.acceptance.specs.Acceptance.{component_schema, Accepts}
use Rattle.acceptance.specs.References.{EachReference}
use Rattle.schema_trees.specs.declared.annotations.AnnotationKeywords.{AnnotationKeywords}
use Rattle.schema_trees.specs.declared.tree.RefLeaf.{RefLeaf}
use Rattle.schema_trees.specs.Schema.{SchemaOf, leaf, bind}
use Rattle.schema_core.specs.declared.alternatives.Alternatives.{Alternatives}
use Rattle.schema_core.specs.Form.{form}
use Rattle.schema_core.specs.Document.{Entry, document, document_by}
use Rattle.schema_core.specs.Entries.{find, entry_names, IsInOrder}
use Rattle.open_types.specs.Open.{Open, named, no_types}
use Rattle.component.specs.Places.{inside, place}
use Rattle.shapes.specs.Declarations.{DeclarationOf, AreApartBodies}
use Rattle.shapes.specs.Shape.{type_shape}
use Rattle.shapes.specs.Plain.{IsPlainType}
use Rattle.terms.specs.InstanceTerms.{instance_term}
use Rattle.shapes.specs.Instances.{body_at}
use Rattle.shapes.specs.InstanceNames.{instance_name}
use Rattle.shapes.specs.InstanceShape.{shape, HasShape, IsPlain, IsRoot, IsReachable}
use Rattle.inlining.specs.Inlining.{IsAtMost}
use Rattle.closing.specs.Closed.{most_inlined}
use Rattle.closing.specs.Excluding.{alternatives, AtMostOneAccepts, TellsOneOf}
use Rattle.instances.specs.Lists.{IsOneOf, AreInstances}
use Rattle.instances.specs.Names.{NamesDiffer}
use Rattle.closing.specs.Links.{inline_in, referred_in, targets_at, references_at, IsComponent, inlining_of}
use Rattle.closing.specs.Closed.{put, closed, instance_schema}

-- An inline path: instances of which each is a target of the one before.
abbrev pub IsInlinePath : List DeclarationOf → List Open → Type 0
IsInlinePath ss [] = Unit {0}
IsInlinePath ss (t ∷ []) = Unit {0}
IsInlinePath ss (t ∷ u ∷ us) = IsOneOf u (targets_at ss t) × IsInlinePath ss (u ∷ us)

-- no inline path that begins with a reachable instance has more instances than may be
abbrev pub AreShallow : List DeclarationOf → Type 0
AreShallow ss = (t : Open) (path : List Open) → IsReachable ss t → IsInlinePath ss (t ∷ path) → length path < most_inlined

-- The components of the declarations: each component is under its name, and there are no others; in byte order of the names.
pub record AreComponents (ss : List DeclarationOf) (all : Bool) (components : List Entry) : Type 0 where
  pub held : (t : Open) → IsComponent ss all t → find (instance_name ss t) components ≡ Some (instance_schema ss t)
  pub only : (name : List ℕ) → IsTrue (is_some (find name components)) → (t : Open) × IsComponent ss all t × (name ≡ instance_name ss t)
  pub order : IsInOrder (entry_names components)

-- ---- what a document says of declarations

abbrev pub HasComponent : Json → List ℕ → Type 0
HasComponent doc name = IsTrue (is_some (component_schema doc name))

-- Each root and each reference has its component, and where all are collected each reachable instance; each name is that of a
-- reachable instance, and the component of each plain reachable instance accepts exactly what has its shape. Under either keyword
-- at most one alternative of an enum's component, plain or not, accepts a value that tells at most one of its variants.
pub record Describes (ss : List DeclarationOf) (all : Bool) (doc : Json) : Type 0 where
  pub roots : (d : ℕ) → IsRoot ss d → HasComponent doc (instance_name ss (named d no_types))
  pub collected : IsTrue all → (t : Open) → IsReachable ss t → HasComponent doc (instance_name ss t)
  pub only : (name : List ℕ) → HasComponent doc name → (t : Open) × IsReachable ss t × (name ≡ instance_name ss t)
  pub references : (name : List ℕ) (s : Json) → component_schema doc name ≡ Some s → EachReference (HasComponent doc) s
  pub accepts : (t : Open) → IsReachable ss t → IsPlain ss t → (s v : Json) → component_schema doc (instance_name ss t) ≡ Some s → Accepts doc s v ↔ HasShape ss t v
  pub excludes : (t : Open) → IsReachable ss t → (s v : Json) → component_schema doc (instance_name ss t) ≡ Some s → TellsOneOf (body_at ss t) v → (by : Alternatives) → AtMostOneAccepts doc (alternatives by s) v

-- The law: a document of components describes the declarations, under either keyword of alternatives, where names are apart and no inline path is longer than it may be.
abbrev pub ComponentsDescribe : Type 0
ComponentsDescribe = (ss : List DeclarationOf) (all : Bool) (components : List Entry) → AreApartBodies ss → NamesDiffer ss → AreShallow ss → AreComponents ss all components →
    (by : Alternatives) → Describes ss all (document_by by components)

-- ---- any instance

-- the instance itself, and what stands inline in it
pub data HasInline (ss : List DeclarationOf) : Open → Open → Type 0 where
  here : (t : Open) → HasInline ss t t
  through_target : (t u w : Open) → IsOneOf u (targets_at ss t) → HasInline ss u w → HasInline ss t w

-- the references of the instance, and of what stands inline in it, are components
abbrev pub LeadsToComponents : List DeclarationOf → Bool → Open → Type 0
LeadsToComponents ss all t = (u w : Open) → HasInline ss t u → IsOneOf w (references_at ss u) → IsComponent ss all w

-- The law: the references of each component, and of what stands inline in it, are components.
abbrev pub ComponentsLead : Type 0
ComponentsLead = (ss : List DeclarationOf) (all : Bool) (t : Open) → IsComponent ss all t → LeadsToComponents ss all t

-- The law: the schema of a plain reachable instance, whose references lead to components, accepts in their document exactly what has its shape.
abbrev pub SchemasDescribe : Type 0
SchemasDescribe = (ss : List DeclarationOf) (all : Bool) (components : List Entry) → AreApartBodies ss → AreShallow ss → AreComponents ss all components →
    (t : Open) → IsReachable ss t → IsPlain ss t → LeadsToComponents ss all t → (v : Json) → Accepts (document components) (form (instance_schema ss t)) v ↔ HasShape ss t v

-- The law: a reference to the component of an instance accepts what the schema of that component accepts, whatever its annotations are.
abbrev pub ReferencesAccept : Type 0
ReferencesAccept = (ss : List DeclarationOf) (components : List Entry) (t : Open) (annotations : AnnotationKeywords) (s v : Json) →
    component_schema (document components) (instance_name ss t) ≡ Some s → Accepts (document components) (form (leaf (record { name = instance_name ss t; annotations = annotations }))) v ↔ Accepts (document components) s v

-- The law: where the paths of numbers are not longer than they may be, neither are those of reachable instances.
abbrev pub ShallowByNumbers : Type 0
ShallowByNumbers = (ss : List DeclarationOf) (is : List Open) → AreInstances ss is → IsAtMost most_inlined (inlining_of ss is) → AreShallow ss

-- the schema of a place of a closed type, as that of a field or, inline, as that of an argument at a parameter's place
abbrev pub closed_place : List DeclarationOf → Bool → Open → SchemaOf RefLeaf
closed_place ss inline t = bind (put ss (closed ss most_inlined)) (place (inside inline) t)

-- The law: a place of a plain type accepts exactly what has the shape of the type, where what it refers to is a plain component, and what is inline there a plain reachable instance whose references lead to components.
abbrev pub PlacesDescribe : Type 0
PlacesDescribe = (ss : List DeclarationOf) (all : Bool) (components : List Entry) → AreApartBodies ss → AreShallow ss → AreComponents ss all components →
    (inline : Bool) (t : Open) → IsPlainType ss t →
    ((u : Open) → IsOneOf u (referred_in (place (inside inline) t)) → IsComponent ss all u × IsPlain ss u) →
    ((u : Open) → IsOneOf u (inline_in (place (inside inline) t)) → IsReachable ss u × IsPlain ss u × LeadsToComponents ss all u) → (v : Json) →
    Accepts (document components) (form (closed_place ss inline t)) v ↔ ((depth : ℕ) × IsTrue (type_shape (shape ss depth) t v))

-- The law: a place of any type accepts the same inline and not, where what it refers to is a component.
abbrev pub PlacesAgree : Type 0
PlacesAgree = (ss : List DeclarationOf) (all : Bool) (components : List Entry) → AreApartBodies ss → AreComponents ss all components →
    (t : Open) → ((u : Open) → IsOneOf u (referred_in (place (inside false) t)) → IsComponent ss all u) → (v : Json) →
    Accepts (document components) (form (closed_place ss true t)) v ↔ Accepts (document components) (form (closed_place ss false t)) v

-- The law: the term of an instance, with the schemas of its targets put in, is the schema of the instance.
abbrev pub MadeInOrder : Type 0
MadeInOrder = (ss : List DeclarationOf) → AreShallow ss → (t : Open) → IsReachable ss t → (made : Open → SchemaOf RefLeaf) → ((u : Open) → IsOneOf u (targets_at ss t) → made u ≡ instance_schema ss u) →
    bind (put ss made) (instance_term ss t) ≡ instance_schema ss t

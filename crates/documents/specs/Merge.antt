-- Schemas that are put into an OpenAPI document.
use Rattle.std.specs.Prelude.{◌≡◌, ◌≢◌, ⊤, ℕ, List, codes, Option, Some, None, option_map, option_and_then, is_some, if◌then◌else◌}
use Rattle.serde_json.specs.Data.{Data, object, Members, no_members, member, put}
use Rattle.serde_json.specs.Find.{get, get_member, as_object}
use Rattle.documents.specs.Components.{schemas_in}
use Rattle.documents.specs.Written.{IsWrittenOf}
use Rattle.documents.specs.declared.merging.Merged.{Merged}
use Rattle.documents.specs.declared.merging.Merged.TheVariants.{Document, NoOpenApi, Taken}

-- the members of an object, or no members where nothing is given; what is no object has none to give
abbrev pub given_members : Option Data → Option Members
given_members None = Some no_members
given_members (Some value) = as_object value

-- the members of the object under the name: the empty one where nothing stands there
abbrev pub own : List ℕ → Members → Option Members
own name ms = given_members (get_member name ms)

-- the members of an OpenAPI document, of its components, and of their schemas
pub record OpenApi : Type 0 where
  pub api : Members
  pub components : Members
  pub schemas : Members

-- An OpenAPI document is an object. Its `components`, and the `schemas` in them, are objects where they are there.
abbrev pub open_api : Data → Option OpenApi
open_api value =
    option_and_then (λ api.
    option_and_then (λ components.
    option_map (λ schemas. record { api = api; components = components; schemas = schemas })
    (own (codes "schemas") components))
    (own (codes "components") api))
    (as_object value)

-- the first of the new names that is taken: the members of a value stand in byte order of their names
abbrev pub taken : Members → Members → Option (List ℕ)
taken schemas no_members = None
taken schemas (member name schema new) = if is_some (get_member name schemas) then Some name else taken schemas new

-- the schemas, with each of the new ones under its name
abbrev pub with_each : Members → Members → Members
with_each schemas no_members = schemas
with_each schemas (member name schema new) = with_each (put name schema schemas) new

-- the document with the new schemas among its own
abbrev pub with_schemas : OpenApi → Members → Data
with_schemas o new = object (put (codes "components") (object (put (codes "schemas") (object (with_each o.schemas new)) o.components)) o.api)

-- the value is an OpenAPI document that the fact holds of
abbrev pub IsOpenApiOf : (OpenApi → Type 0) → Data → Type 0
IsOpenApiOf Fact value = (o : OpenApi) × (open_api value ≡ Some o) × Fact o

-- what merging the texts of the new schemas into the value gives
abbrev pub IsMerged : Data → Members → Merged → Type 0
IsMerged value new (Document written) = IsOpenApiOf (λ o. (taken o.schemas new ≡ None) × IsWrittenOf (with_schemas o new) written) value
IsMerged value new NoOpenApi = open_api value ≡ None
IsMerged value new (Taken name) = IsOpenApiOf (λ o. taken o.schemas new ≡ Some name) value

-- ---- laws

-- each name stands once among the members, as in a map
abbrev pub AreOnce : Members → Type 0
AreOnce no_members = ⊤
AreOnce (member name value ms) = (get_member name ms ≡ None) × AreOnce ms

-- what stands in the document after new schemas were put into it
pub record MergeHolds (o : OpenApi) (new : Members) : Type 0 where
  -- each new schema stands under its name, and under each other name what the document had there
  pub added : AreOnce new → (name : List ℕ) (schema : Data) → get_member name new ≡ Some schema → get_member name (schemas_in (with_schemas o new)) ≡ Some schema
  pub own_schemas : (name : List ℕ) → get_member name new ≡ None → get_member name (schemas_in (with_schemas o new)) ≡ get_member name o.schemas
  -- the other components stay, and the document's other members
  pub own_components : (name : List ℕ) → name ≢ codes "schemas" → option_and_then (get name) (get (codes "components") (with_schemas o new)) ≡ get_member name o.components
  pub own_members : (name : List ℕ) → name ≢ codes "components" → get name (with_schemas o new) ≡ get_member name o.api

abbrev pub MergesHold : Type 0
MergesHold = (o : OpenApi) (new : Members) → MergeHolds o new

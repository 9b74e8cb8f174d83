-- The document of components (OpenAPI 3.1, "Components Object"), and its text.
use Rattle.std.specs.Prelude.{ℕ, List, [], ◌∷◌, ◌++◌, codes, map as map_list, Bool, true}
use Rattle.serde_json.specs.Data.{string}
use Rattle.serde_json.specs.Written.{compact_text, comma_if}
use Rattle.acceptance.specs.Json.{Json, map_of}
use Rattle.acceptance.specs.Data.{data_of}
use Rattle.schema_trees.specs.declared.tree.RefLeaf.{RefLeaf}
use Rattle.schema_trees.specs.Schema.{SchemaOf}
use Rattle.schema_core.specs.declared.alternatives.Alternatives.{Alternatives}
use Rattle.schema_core.specs.declared.alternatives.Alternatives.TheVariants.{OneOf}
use Rattle.schema_core.specs.Form.{form_by}

-- a name and the schema of its component
abbrev pub Entry : Type 0
Entry = List ℕ × SchemaOf RefLeaf

abbrev pub entry_form : Alternatives → Entry → List ℕ × Json
entry_form by e = (e.0, form_by by e.1)

-- The document with alternatives under that keyword: a map of components, in it a map of schemas, in it the form of each schema under its name.
abbrev pub document_by : Alternatives → List Entry → Json
document_by by es = map_of ((codes "components", map_of ((codes "schemas", map_of (map_list (entry_form by) es)) ∷ [])) ∷ [])

-- The document with alternatives under `oneOf`.
abbrev pub document : List Entry → Json
document = document_by OneOf

-- an entry as a member of an object, and the members of entries with commas between
abbrev pub entry_text : Alternatives → Entry → List ℕ
entry_text by e = compact_text (string e.0) ++ 58 ∷ compact_text (data_of (form_by by e.1))

abbrev pub entries_text : Alternatives → Bool → List Entry → List ℕ
entries_text by later [] = []
entries_text by later (e ∷ es) = comma_if later ++ (entry_text by e ++ entries_text by true es)

-- the compact JSON text of a value, and one new line
unfoldable pub text_of : Json → List ℕ
text_of value = compact_text (data_of value) ++ 10 ∷ []

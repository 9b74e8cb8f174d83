-- The schemas of a document (OpenAPI 3.1, "Components Object").
use Rattle.std.specs.Prelude.{codes, Option, option_and_then, unwrap_or}
use Rattle.serde_json.specs.Data.{Data, Members, no_members}
use Rattle.serde_json.specs.Find.{get, as_object}

-- the object `schemas` in the object `components` of the document
abbrev pub schemas_found : Data → Option Members
schemas_found document = option_and_then as_object (option_and_then (get (codes "schemas")) (get (codes "components") document))

-- the schemas under their names, of which a document without that object has none
abbrev pub schemas_in : Data → Members
schemas_in document = unwrap_or (schemas_found document) no_members

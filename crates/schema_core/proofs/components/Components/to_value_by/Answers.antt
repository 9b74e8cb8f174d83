use Rattle.std.proofs.Common.{◌∷◌, [], ap, ◌∙◌, codes, map as map_list}
use Rattle.serde_json.specs.Data.{object}
use Rattle.acceptance.specs.Json.{Json, map_of}
use Rattle.schema_core.specs.Document.{entry_form}
use Rattle.schema_core.proofs.Puts.{object_is}
use Rattle.schema_core.proofs.components.Components.to_value_by.Goals as goal

pub returns : goal.returns
returns c =
    let schemas : Json = map_of (map_list (entry_form c.args.by) c.args.self.now) in
    c.in_ok-object_of.ensures (map_of ((codes "schemas", schemas) ∷ []))
    (c.in_ok-components.ensures schemas (object_is c.in_ok-schemas.field-0 ∙ ap object c.in_ok-schemas.ensures))

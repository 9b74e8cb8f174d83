use Rattle.std.proofs.Common.{OnOk, subst, string_bytes}
use Rattle.schema_trees.specs.Schema.{schema_view}
use Rattle.schema_core.specs.Form.{form_by}
use Rattle.schema_core.specs.Writes.{WritesValue}
use Rattle.schema_core.proofs.Parts.{bind-leaf}
use Rattle.schema_core.proofs.document_text.push_schema_text.Goals as goal

pub returns : goal.returns
returns c = subst (λ s. OnOk c.push_schema.result (WritesValue (form_by c.args.by s) (string_bytes c.args.text.now) (string_bytes c.push_schema.new.text))) (bind-leaf (schema_view c.args.schema.now)) c.push_schema.ensures

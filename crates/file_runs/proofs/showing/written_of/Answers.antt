use Rattle.std.proofs.Common.{◌≡◌, ◌∙◌, ◌++◌, ◌∷◌, [], sym, subst, false}
use Rattle.serde_json.specs.Written.{compact_text}
use Rattle.acceptance.specs.Data.{data_of}
use Rattle.schema_core.specs.Document.{document_by}
use Rattle.documents.specs.Text.{IsJsonOf}
use Rattle.file_runs.proofs.Lines.{json_of, line_is}
use Rattle.file_runs.proofs.showing.written_of.Goals as goal

pub returns : goal.returns
returns c =
    let x = document_by c.args.by c.args.composition.now in
    let held = c.in_ok-text.ensures.held in
    let line : c.as_str.result.now ≡ compact_text (data_of x) ++ 10 ∷ [] = c.as_str.ensures ∙ c.in_ok-text.ensures.text ∙ line_is x in
    let json : c.in_ok-json.json ≡ compact_text (data_of x) = c.in_ok-json.ensures ∙ c.without_line.ensures (compact_text (data_of x)) line in
    record {
      json = subst (IsJsonOf false (data_of x)) (sym json) (json_of x (c.texts_are_compact.ensures x held.0 held.1));
      schemas = c.in_ok-schemas.ensures.texts;
      order = c.in_ok-schemas.ensures.order;
    }

use Rattle.std.proofs.Common.{◌++◌, ◌∷◌, [], ◌∙◌, ap, subst, string_bytes}
use Rattle.serde_json.specs.Written.{compact_text, comma_if}
use Rattle.acceptance.specs.Data.{data_of}
use Rattle.schema_trees.specs.Held.{IsHeld}
use Rattle.schema_trees.specs.Schema.{bind, tree_view}
use Rattle.schema_core.specs.Document.{Entry}
use Rattle.schema_core.specs.Form.{form_by}
use Rattle.schema_core.proofs.EntryLaws.{all-append}
use Rattle.schema_core.proofs.Written.{entry_more, some_more}
use Rattle.schema_core.proofs.document_text.DocumentText.push.Goals as goal

pub returns : goal.returns
returns g c = λ by es h.
    let s = bind (g.W.WriteLeaf.put c.args.writer.now) (tree_view g.W.WriteLeaf.meaning c.args.schema.now) in
    let e : Entry = (c.args.name.now, s) in
    record {
      text_is =
          entry_more by es e (string_bytes c.args.self.now.text) _ _ _ _ h.text_is (c.in_ok-push_comma.ensures ∙ ap (λ b. string_bytes c.args.self.now.text ++ comma_if b) h.later_is)
          c.in_ok-push_words.ensures c.in_ok-push_str.ensures.bytes (c.in_ok-push_schema.ensures.text_is ∙ ap (λ b. string_bytes c.push_str.new.self ++ compact_text (data_of (form_by b s))) h.by_is);
      later_is = some_more es e;
      by_is = h.by_is;
      held = all-append (λ x. IsHeld (form_by by x.1)) es (e ∷ []) h.held (subst (λ b. IsHeld (form_by b s)) h.by_is c.in_ok-push_schema.ensures.held, tt);
    }

use Rattle.std.proofs.Common.{◌≡◌, ◌++◌, drop, false, string_bytes}
use Rattle.serde_json.specs.Written.{items_text}
use Rattle.acceptance.specs.Data.{items_data}
use Rattle.schema_core.specs.Form.{texts_form}
use Rattle.schema_core.proofs.pushes.push_texts.Given as goal

-- the text so far, with the texts that are left, is that of all
abbrev pub invariant-loop-words : goal.invariant-loop-words
invariant-loop-words l =
    string_bytes l.text ++ items_text l.later (items_data (texts_form (drop l.words-index l.texts))) ≡ string_bytes l.initial.text ++ items_text false (items_data (texts_form l.texts))

use Rattle.std.proofs.Common.{◌≡◌, ◌++◌, ◌∙◌, refl, ap, ap₂, sym, codes, false, string_bytes}
use Rattle.std.proofs.lemmas.List.{append_assoc}
use Rattle.json.specs.Print.{escape_byte}
use Rattle.serde_json.specs.Written.{compact_text}
use Rattle.acceptance.specs.Json.{text}
use Rattle.acceptance.specs.Data.{data_of}
use Rattle.schema_core.specs.Form.{reference_fields, reference_text}
use Rattle.schema_core.proofs.Writes.{then, present, object_text}
use Rattle.schema_core.proofs.schema_text.push_reference.Goals as goal

pub returns : goal.returns
unfolding escape_byte
returns c =
    let r = c.args.reference.now in
    let before = string_bytes c.args.text.now in
    let key = codes "\"$ref\":" in
    let target : c.as_str-2.result.now ≡ reference_text r.name = c.as_str-2.ensures.value ∙ c.in_ok-push_str.ensures.bytes ∙ ap₂ (λ s t. s ++ t) c.in_ok-target.ensures.ok c.as_str.ensures in
    let words = c.in_ok-push_words.ensures ∙ ap (λ k. string_bytes c.push_str-2.new.self ++ compact_text (data_of (text k))) target in
    let first = present (codes "$ref") (text (reference_text r.name)) false key (before ++ codes "{") _ _ refl (c.in_ok-push_str-2.ensures.bytes ∙ sym (append_assoc before (codes "{") key)) words (tt, tt) in
    object_text (reference_fields r) before (before ++ codes "{") _ _ refl refl refl
    (then first c.in_ok-push_annotations.ensures)
    c.in_ok-push_str-3.ensures.bytes

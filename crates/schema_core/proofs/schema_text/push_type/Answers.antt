use Rattle.std.proofs.Common.{◌++◌, refl, ap, ◌∙◌, codes, string_bytes}
use Rattle.std.proofs.lemmas.List.{append_assoc}
use Rattle.json.specs.Print.{escape_byte}
use Rattle.acceptance.specs.Json.{text, list, item, no_items}
use Rattle.schema_core.specs.Form.{word_text}
use Rattle.schema_core.proofs.Writes.{present_from, one_word, with_null}
use Rattle.schema_core.proofs.schema_text.push_type.Goals as goal

pub returns-in_ok-push_str-in-One-2 : goal.returns-in_ok-push_str-in-One-2
unfolding escape_byte
returns-in_ok-push_str-in-One-2 c =
    let w = c.in-One.word in
    let end = codes "\"" in
    rw c.in-One.is
    (present_from (codes "type") (text (word_text w)) c.args.later end (word_text w ++ end) _ _ _ _ refl c.in_ok-push_key-in-One.ensures
    (c.in_ok-push_str-in-One-2.ensures.bytes ∙ ap (λ t. t ++ end) (c.in_ok-push_str-in-One.ensures.bytes ∙ ap (λ t. string_bytes c.push_key.new.text ++ t) c.word_of.ensures) ∙ append_assoc (string_bytes c.push_key.new.text) (word_text w) end)
    (one_word w) (tt, tt))

pub returns-in_ok-push_str-in-Nullable-2 : goal.returns-in_ok-push_str-in-Nullable-2
unfolding escape_byte
returns-in_ok-push_str-in-Nullable-2 c =
    let w = c.in-Nullable.word in
    let end = codes "\",\"null\"]" in
    rw c.in-Nullable.is
    (present_from (codes "type") (list (item (text (word_text w)) (item (text (codes "null")) no_items))) c.args.later (codes "[\"") (word_text w ++ end) _ _ _ _ refl c.in_ok-push_key-in-Nullable.ensures
    (c.in_ok-push_str-in-Nullable-2.ensures.bytes ∙ ap (λ t. t ++ end) (c.in_ok-push_str-in-Nullable.ensures.bytes ∙ ap (λ t. string_bytes c.push_key-in-Nullable.new.text ++ t) c.word_of-in-Nullable.ensures) ∙ append_assoc (string_bytes c.push_key-in-Nullable.new.text) (word_text w) end)
    (with_null w) ((tt, (tt, tt)), (tt, (tt, tt))))

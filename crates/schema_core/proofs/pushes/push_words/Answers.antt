use Rattle.std.proofs.Common.{◌∷◌, [], ◌++◌, ap, ◌∙◌, sym, string_bytes, rules}
use Rattle.std.proofs.lemmas.List.{append_assoc}
use Rattle.schema_core.proofs.Plain.{plain_stands}
use Rattle.schema_core.proofs.pushes.push_words.Goals as goal

pub returns-then-is_plain : goal.returns-then-is_plain
returns-then-is_plain c =
    let words = c.args.words.now in
    let old = string_bytes c.args.text.now in
    c.in_ok-push_str-3.ensures.bytes
    ∙ ap (λ xs. xs ++ 34 ∷ []) (c.in_ok-push_str-2.ensures.bytes ∙ ap (λ xs. xs ++ words) c.in_ok-push_str.ensures.bytes)
    ∙ append_assoc (old ++ 34 ∷ []) words (34 ∷ [])
    ∙ append_assoc old (34 ∷ []) (words ++ 34 ∷ [])
    ∙ ap (λ xs. old ++ 34 ∷ (xs ++ 34 ∷ [])) (sym (plain_stands words (search (rules, c.is_plain.ensures, c.if-is_plain.true, c.as_bytes.ensures.value))))

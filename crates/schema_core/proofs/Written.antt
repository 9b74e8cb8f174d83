-- Texts of lists and of the document, one by one.
use Rattle.std.proofs.Common.{ℕ, Bool, true, false, List, [], ◌∷◌, ◌++◌, ◌≡◌, refl, ap, sym, ◌∙◌, map, codes}
use Rattle.std.proofs.lemmas.List.{append-nil, append_assoc}
use Rattle.json.specs.Print.{escape_byte}
use Rattle.serde_json.specs.Data.{string}
use Rattle.serde_json.specs.Written.{compact_text, items_text, members_text, comma_if}
use Rattle.acceptance.specs.Json.{Json, Items, item}
use Rattle.acceptance.specs.Data.{data_of, items_data, members_data}
use Rattle.schema_core.specs.declared.alternatives.Alternatives.{Alternatives}
use Rattle.schema_core.specs.Form.{form_by}
use Rattle.schema_core.specs.Document.{Entry, entry_form, entry_text, entries_text, document_by, text_of}
use Rattle.schema_core.specs.Writes.{has_some}
use Rattle.schema_core.specs.Entries.{entry_names, IsInOrder}
use Rattle.schema_core.proofs.InOrder.{members_of, forms_in_order}

-- ---- one value more of a list

pub item_step : (later : Bool) (x : Json) (xs : Items) (a b c : List ℕ) → b ≡ a ++ comma_if later → c ≡ b ++ compact_text (data_of x) → c ++ items_text true (items_data xs) ≡ a ++ items_text later (items_data (item x xs))
item_step later x xs a b c p q =
    let comma = comma_if later in
    let value = compact_text (data_of x) in
    let more = items_text true (items_data xs) in
    ap (λ t. t ++ more) (q ∙ ap (λ t. t ++ value) p) ∙ append_assoc (a ++ comma) value more ∙ append_assoc a comma (value ++ more)

-- ---- one entry more

-- whether something stands before what follows
abbrev goes_on : Bool → List Entry → Bool
goes_on later [] = later
goes_on later (e ∷ es) = true

goes_on_true : (es : List Entry) → goes_on true es ≡ true
goes_on_true [] = refl
goes_on_true (e ∷ es) = refl

more_text : (by : Alternatives) (later : Bool) (es : List Entry) (e : Entry) → entries_text by later (es ++ e ∷ []) ≡ entries_text by later es ++ (comma_if (goes_on later es) ++ entry_text by e)
more_text by later [] e = ap (λ xs. comma_if later ++ xs) (append-nil (entry_text by e))
more_text by later (x ∷ es) e =
    let rest = entries_text by true es in
    ap (λ xs. comma_if later ++ (entry_text by x ++ xs)) (more_text by true es e ∙ ap (λ b. rest ++ (comma_if b ++ entry_text by e)) (goes_on_true es))
    ∙ ap (λ xs. comma_if later ++ xs) (sym (append_assoc (entry_text by x) rest (44 ∷ entry_text by e)))
    ∙ sym (append_assoc (comma_if later) (entry_text by x ++ rest) (44 ∷ entry_text by e))

-- ---- the text

written : (by : Alternatives) (later : Bool) (es : List Entry) → members_text later (members_data (members_of (map (entry_form by) es))) ≡ entries_text by later es ++ 125 ∷ []
written by later [] = refl
written by later (e ∷ es) =
    let rest = entries_text by true es in
    let value = compact_text (data_of (entry_form by e).1) in
    ap (λ xs. comma_if later ++ (compact_text (string e.0) ++ 58 ∷ (value ++ xs))) (written by true es)
    ∙ ap (λ xs. comma_if later ++ xs) (sym (append_assoc (compact_text (string e.0)) (58 ∷ value) (rest ++ 125 ∷ [])) ∙ sym (append_assoc (entry_text by e) rest (125 ∷ [])))
    ∙ sym (append_assoc (comma_if later) (entry_text by e ++ rest) (125 ∷ []))

-- what stands in the document before its entries
abbrev pub head : List ℕ
head = codes "{\"components\":{\"schemas\":{"

three_ends : (xs : List ℕ) → (((xs ++ 125 ∷ []) ++ 125 ∷ []) ++ 125 ∷ []) ++ 10 ∷ [] ≡ xs ++ codes "}}}\n"
three_ends xs = append_assoc ((xs ++ 125 ∷ []) ++ 125 ∷ []) (125 ∷ []) (10 ∷ []) ∙ append_assoc (xs ++ 125 ∷ []) (125 ∷ []) (125 ∷ 10 ∷ []) ∙ append_assoc xs (125 ∷ []) (125 ∷ 125 ∷ 10 ∷ [])

pub document_text : (by : Alternatives) (es : List Entry) → IsInOrder (entry_names es) → (head ++ entries_text by false es) ++ codes "}}}\n" ≡ text_of (document_by by es)
unfolding text_of escape_byte
document_text by es o =
    let inner = ap (λ ms. members_text false (members_data ms)) (forms_in_order by es o) ∙ written by false es in
    ap (λ xs. head ++ xs) (sym (three_ends (entries_text by false es)))
    ∙ ap (λ xs. head ++ (((xs ++ 125 ∷ []) ++ 125 ∷ []) ++ 10 ∷ [])) (sym inner)

-- ---- what is pushed

goes_on_false : (es : List Entry) → goes_on false es ≡ has_some es
goes_on_false [] = refl
goes_on_false (e ∷ es) = refl

pub some_more : (es : List Entry) (e : Entry) → true ≡ has_some (es ++ e ∷ [])
some_more [] e = refl
some_more (x ∷ es) e = refl

-- behind the entries so far, and a comma where there are some, stand the name of one more, a colon and its schema
pub entry_more : (by : Alternatives) (es : List Entry) (e : Entry) (old between key colon new : List ℕ) → old ≡ head ++ entries_text by false es → between ≡ old ++ comma_if (has_some es) →
    key ≡ between ++ compact_text (string e.0) → colon ≡ key ++ 58 ∷ [] → new ≡ colon ++ compact_text (data_of (form_by by e.1)) → new ≡ head ++ entries_text by false (es ++ e ∷ [])
entry_more by es e old between key colon new o p q r t =
    let comma = comma_if (has_some es) in
    let name = compact_text (string e.0) in
    let value = compact_text (data_of (form_by by e.1)) in
    let so_far = entries_text by false es in
    t ∙ ap (λ xs. xs ++ value) (r ∙ ap (λ xs. xs ++ 58 ∷ []) (q ∙ ap (λ xs. xs ++ name) (p ∙ ap (λ xs. xs ++ comma) o)))
    ∙ append_assoc (((head ++ so_far) ++ comma) ++ name) (58 ∷ []) value
    ∙ append_assoc ((head ++ so_far) ++ comma) name (58 ∷ value)
    ∙ append_assoc (head ++ so_far) comma (entry_text by e)
    ∙ append_assoc head so_far (comma ++ entry_text by e)
    ∙ ap (λ b. head ++ (so_far ++ (comma_if b ++ entry_text by e))) (sym (goes_on_false es))
    ∙ ap (λ xs. head ++ xs) (sym (more_text by false es e))

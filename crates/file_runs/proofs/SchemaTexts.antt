-- The texts of a document's schemas, by the entries that it is made of.
use Rattle.std.proofs.Common.{◌≡◌, ◌∙◌, ◌∷◌, [], ℕ, List, false, refl, ap, ap₂, sym, subst, map}
use Rattle.std.specs.Map.{keys_of}
use Rattle.acceptance.specs.Json.{Json, Members, no_members, member, entries, put_all}
use Rattle.acceptance.specs.Data.{data_of, members_data}
use Rattle.schema_core.specs.declared.alternatives.Alternatives.{Alternatives}
use Rattle.schema_core.specs.Document.{Entry, entry_form, document_by}
use Rattle.schema_core.specs.Entries.{entry_names, IsInOrder}
use Rattle.schema_core.specs.Form.{form_by}
use Rattle.schema_core.specs.Meaning.{DocumentsAreInOrder}
use Rattle.schema_core.specs.OneText.{TextsAreCompact}
use Rattle.closing.specs.Texts.{AreSchemaTexts}
use Rattle.documents.specs.Components.{schemas_in}
use Rattle.documents.specs.Text.{IsJsonOf}
use Rattle.documents.specs.Written.{AreTextsOf, AreNamedInOrder}
use Rattle.file_runs.proofs.Lines.{json_of}

-- the members of these entries, as they stand
abbrev members_of : List (List ℕ × Json) → Members
members_of [] = no_members
members_of (e ∷ es) = member e.0 e.1 (members_of es)

members_of-entries : (ms : Members) → members_of (entries ms) ≡ ms
members_of-entries no_members = refl
members_of-entries (member k x ms) = ap (member k x) (members_of-entries ms)

module _ (compact : TextsAreCompact) (by : Alternatives) where
  texts_made : (es : List Entry) (ts : List (List ℕ × List ℕ)) → AreSchemaTexts by es ts → AreTextsOf (members_data (members_of (map (entry_form by) es))) ts
  texts_made [] [] h = tt
  texts_made [] (t ∷ ts) h = absurd h
  texts_made (e ∷ es) [] h = absurd h
  texts_made (e ∷ es) (t ∷ ts) h =
      let form = form_by by e.1 in
      let held = h.1.held in
      (h.0, subst (IsJsonOf false (data_of form)) (sym h.1.text_is) (json_of form (compact form held.0 held.1)), texts_made es ts h.2)

  -- the texts of the entries are those of the document's schemas
  pub schemas_are : DocumentsAreInOrder → (es : List Entry) (ts : List (List ℕ × List ℕ)) → IsInOrder (entry_names es) → AreSchemaTexts by es ts → AreTextsOf (schemas_in (data_of (document_by by es))) ts
  schemas_are ordered es ts order h =
      let ms = put_all (map (entry_form by) es) no_members in
      subst (λ ns. AreTextsOf (members_data ns) ts) (ap members_of (sym (ordered by es order)) ∙ members_of-entries ms) (texts_made es ts h)

  names_are : (es : List Entry) (ts : List (List ℕ × List ℕ)) → AreSchemaTexts by es ts → keys_of ts ≡ entry_names es
  names_are [] [] h = refl
  names_are [] (t ∷ ts) h = absurd h
  names_are (e ∷ es) [] h = absurd h
  names_are (e ∷ es) (t ∷ ts) h = ap₂ (λ k ks. k ∷ ks) h.0 (names_are es ts h.2)

  pub order_is : (es : List Entry) (ts : List (List ℕ × List ℕ)) → IsInOrder (entry_names es) → AreSchemaTexts by es ts → AreNamedInOrder ts
  order_is es ts order h = subst IsInOrder (sym (names_are es ts h)) order

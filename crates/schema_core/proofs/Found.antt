-- A component is found in the document under its name.
use Rattle.std.proofs.Common.{ℕ, List, [], ◌∷◌, Bool, true, false, Option, Some, None, option_map, bytes_eq, cond, map as map_list, ◌≡◌, refl, ap, sym, subst, ◌∙◌}
use Rattle.std.proofs.lemmas.Bool.{or_parts}
use Rattle.std.proofs.lemmas.Slice.Eq.{bytes_eq-Decides}
use Rattle.acceptance.specs.Json.{Json, Members, no_members, put, put_all, entries, names, look}
use Rattle.texts.specs.Names.{is_in, IsDistinct}
use Rattle.schema_core.specs.declared.alternatives.Alternatives.{Alternatives}
use Rattle.schema_core.specs.Form.{form_by}
use Rattle.schema_core.specs.Document.{Entry, entry_form}
use Rattle.schema_core.specs.Entries.{entry_names, find}
use Rattle.schema_core.proofs.Fields.{look-put}

abbrev or_else : Option Json → Option Json → Option Json
or_else (Some x) o = Some x
or_else None o = o

look-absent : (j : List ℕ) (ps : List (List ℕ × Json)) → is_in j (names ps) ≡ false → look j ps ≡ None
look-absent j [] h = refl
look-absent j (p ∷ ps) h = ap (λ b. cond b (Some p.1) (look j ps)) ((or_parts (bytes_eq j p.0) (is_in j (names ps)) h).0) ∙ look-absent j ps ((or_parts (bytes_eq j p.0) (is_in j (names ps)) h).1)

look-put_all : (j : List ℕ) (ps : List (List ℕ × Json)) (ms : Members) → IsDistinct (names ps) → look j (entries (put_all ps ms)) ≡ or_else (look j ps) (look j (entries ms))
look-put_all j [] ms d = refl
look-put_all j (p ∷ ps) ms d =
    look-put_all j ps (put p.0 p.1 ms) d.1 ∙ ap (or_else (look j ps)) (look-put j p.0 p.1 ms) ∙ by (bytes_eq j p.0) refl
  where
    by : (b : Bool) → bytes_eq j p.0 ≡ b → or_else (look j ps) (cond b (Some p.1) (look j (entries ms))) ≡ or_else (cond b (Some p.1) (look j ps)) (look j (entries ms))
    by true e =
        let same = (bytes_eq-Decides j p.0).0 e in
        let absent : look j ps ≡ None = look-absent j ps (ap (λ n. is_in n (names ps)) same ∙ d.0) in
        ap (λ o. or_else o (Some p.1)) absent
    by false e = refl

names-forms : (keyword : Alternatives) (es : List Entry) → names (map_list (entry_form keyword) es) ≡ entry_names es
names-forms keyword [] = refl
names-forms keyword (e ∷ es) = ap (λ ns. e.0 ∷ ns) (names-forms keyword es)

look-forms : (keyword : Alternatives) (j : List ℕ) (es : List Entry) → look j (map_list (entry_form keyword) es) ≡ option_map (form_by keyword) (find j es)
look-forms keyword j [] = refl
look-forms keyword j (e ∷ es) = ap (cond (bytes_eq j e.0) (Some (form_by keyword e.1))) (look-forms keyword j es) ∙ by (bytes_eq j e.0)
  where
    by : (b : Bool) → cond b (Some (form_by keyword e.1)) (option_map (form_by keyword) (find j es)) ≡ option_map (form_by keyword) (cond b (Some e.1) (find j es))
    by true = refl
    by false = refl

or_else-none : (o : Option Json) → or_else o None ≡ o
or_else-none None = refl
or_else-none (Some x) = refl

pub found_in_document : (keyword : Alternatives) (es : List Entry) → IsDistinct (entry_names es) → (j : List ℕ) → look j (entries (put_all (map_list (entry_form keyword) es) no_members)) ≡ option_map (form_by keyword) (find j es)
found_in_document keyword es d j =
    look-put_all j (map_list (entry_form keyword) es) no_members (subst IsDistinct (sym (names-forms keyword es)) d) ∙ or_else-none (look j (map_list (entry_form keyword) es)) ∙ look-forms keyword j es

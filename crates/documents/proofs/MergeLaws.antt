-- Members of a map: what is put in, what is taken out and put in again, and which names are taken.
use Rattle.std.proofs.Common.{◌≡◌, ℕ, List, Bool, Option, Some, None, option_map, unwrap_or, codes, is_some, Global, Ordering, Less, Equal, Greater, String, string_bytes, string_cmp, nat_cmp, option_and_then, refl, sym, ap, ◌∙◌}
use Rattle.std.specs.Cmp.Lexicographic.{slice_cmp}
use Rattle.std.specs.Ordering.{match_ordering}
use Rattle.std.specs.Map.{lookup}
use Rattle.std.specs.BTreeMap.{is_at, insert_entry}
use Rattle.serde_json.specs.Data.{Data, object, Members, no_members, member, put}
use Rattle.serde_json.specs.Find.{get, get_member, as_object}
use Rattle.serde_json.specs.View.{view, members_view}
use Rattle.serde_json.specs.declared.value.Value.{Value}
use Rattle.serde_json.proofs.Views.{Entry, members_view-insert_entry, view-lookup, get_member-put, get_member-put_other}
use Rattle.documents.proofs.Names.{itself, same_names}
use Rattle.documents.specs.Components.{schemas_in}
use Rattle.documents.specs.Merge.{own, OpenApi, open_api, with_each, with_schemas, AreOnce, MergesHold}

pub put_is : (es : List Entry) (k : String Global) (v : Value) → members_view (insert_entry string_cmp es k v) ≡ put (string_bytes k) (view v) (members_view es)
put_is es k v = members_view-insert_entry es k v

-- what a map has at a name
pub found : (name : String Global) (es : List Entry) → option_map view (lookup (is_at (string_cmp name)) es) ≡ get_member (string_bytes name) (members_view es)
found name es = view-lookup (string_bytes name) es

-- ---- put, and put again

put_again : (o : Ordering) (k l : List ℕ) (d e f : Data) (ms : Members) → slice_cmp nat_cmp k l ≡ o → slice_cmp nat_cmp k k ≡ Equal → put k d (put k e ms) ≡ put k d ms
    → put k d (match_ordering o (member k e (member l f ms)) (member l e ms) (member l f (put k e ms))) ≡ match_ordering o (member k d (member l f ms)) (member l d ms) (member l f (put k d ms))
put_again Less k l d e f ms is same more = rw same refl
put_again Equal k l d e f ms is same more = rw is refl
put_again Greater k l d e f ms is same more = rw is (ap (member l f) more)

-- what is put at a name replaces what was put there before
pub put-put : (k : List ℕ) (d e : Data) (ms : Members) → put k d (put k e ms) ≡ put k d ms
put-put k d e no_members = rw (itself k) refl
put-put k d e (member l f ms) = put_again (slice_cmp nat_cmp k l) k l d e f ms refl (itself k) (put-put k d e ms)

-- ---- names

-- the test by which a map finds the name
abbrev pub at_name : List ℕ → String Global → Bool
at_name name = is_at (λ k. slice_cmp nat_cmp name (string_bytes k))

is_some-map : {A B : Type 0} (f : A → B) (o : Option A) → is_some (option_map f o) ≡ is_some o
is_some-map f None = refl
is_some-map f (Some a) = refl

pub contains : (name : List ℕ) (es : List Entry) → is_some (lookup (at_name name) es) ≡ is_some (get_member name (members_view es))
contains name es = sym (is_some-map view (lookup (at_name name) es)) ∙ ap is_some (view-lookup name es)

-- ---- the OpenAPI document

pub opened : (value : Data) (api components schemas : Members) → value ≡ object api → Some components ≡ own (codes "components") api → Some schemas ≡ own (codes "schemas") components
    → open_api value ≡ Some (record { api = api; components = components; schemas = schemas })
opened value api components schemas is first second = rw (is, ← first, ← second) refl

pub merged_is : (api components schemas new api₁ api₂ components₁ components₂ schemas₂ : Members)
    → ((d : Data) → put (codes "components") d api₁ ≡ put (codes "components") d api)
    → ((d : Data) → put (codes "schemas") d components₁ ≡ put (codes "schemas") d components)
    → schemas₂ ≡ with_each schemas new → components₂ ≡ put (codes "schemas") (object schemas₂) components₁ → api₂ ≡ put (codes "components") (object components₂) api₁
    → object api₂ ≡ with_schemas (record { api = api; components = components; schemas = schemas }) new
merged_is api components schemas new api₁ api₂ components₁ components₂ schemas₂ kept kept_too all in_components in_api =
    ap object (in_api ∙ kept (object components₂) ∙ ap (λ ms. put (codes "components") (object ms) api) (in_components ∙ kept_too (object schemas₂) ∙ ap (λ ms. put (codes "schemas") (object ms) components) all))

-- ---- what stands in the merged document

-- Where the name is not the first one, what holds of the members behind holds of all. Where it is, the other fact does.
at_first : (name k : List ℕ) (d : Data) (new : Members) (found : Option Data) (Fact : Type 0) → get_member name (member k d new) ≡ found
    → ((name ≡ k → ⊥) → get_member name new ≡ found → Fact) → (name ≡ k → Some d ≡ found → Fact) → Fact
at_first name k d new found Fact at behind here = by (slice_cmp nat_cmp name k) refl at
  where
    apart : (o : Ordering) → slice_cmp nat_cmp name k ≡ o → (o ≡ Equal → ⊥) → name ≡ k → ⊥
    apart o is other e = other (sym is ∙ ap (λ n. slice_cmp nat_cmp n k) e ∙ itself k)

    by : (o : Ordering) → slice_cmp nat_cmp name k ≡ o → match_ordering o (get_member name new) (Some d) (get_member name new) ≡ found → Fact
    by Less is rest = behind (apart Less is (λ e. cc)) rest
    by Equal is rest = here (same_names name k is) rest
    by Greater is rest = behind (apart Greater is (λ e. cc)) rest

something : (d : Data) (Fact : Type 0) → Some d ≡ None → Fact
something d Fact e = cc

kept : (name : List ℕ) (schemas new : Members) → get_member name new ≡ None → get_member name (with_each schemas new) ≡ get_member name schemas
kept name schemas no_members none = refl
kept name schemas (member k d new) none =
    at_first name k d new None _ none (λ other rest. kept name (put k d schemas) new rest ∙ get_member-put_other name k d schemas other) (λ same e. something d _ e)

added : (name : List ℕ) (schema : Data) (schemas new : Members) → AreOnce new → get_member name new ≡ Some schema → get_member name (with_each schemas new) ≡ Some schema
added name schema schemas no_members once at = something schema _ (sym at)
added name schema schemas (member k d new) once at =
    at_first name k d new (Some schema) _ at (λ other rest. added name schema (put k d schemas) new once.1 rest)
    (λ same is. kept name (put k d schemas) new (ap (λ n. get_member n new) same ∙ once.0) ∙ ap (λ n. get_member n (put k d schemas)) same ∙ get_member-put k d schemas ∙ is)

-- the components of the merged document
abbrev components_of : OpenApi → Members → Members
components_of o new = put (codes "schemas") (object (with_each o.schemas new)) o.components

components_there : (o : OpenApi) (new : Members) → get (codes "components") (with_schemas o new) ≡ Some (object (components_of o new))
components_there o new = get_member-put (codes "components") (object (components_of o new)) o.api

pub schemas_there : (o : OpenApi) (new : Members) → schemas_in (with_schemas o new) ≡ with_each o.schemas new
schemas_there o new =
    ap (λ c. unwrap_or (option_and_then as_object (option_and_then (get (codes "schemas")) c)) no_members) (components_there o new)
    ∙ ap (λ s. unwrap_or (option_and_then as_object s) no_members) (get_member-put (codes "schemas") (object (with_each o.schemas new)) o.components)

pub merges_hold : MergesHold
merges_hold o new = record {
  added = λ once name schema at. ap (get_member name) (schemas_there o new) ∙ added name schema o.schemas new once at;
  own_schemas = λ name none. ap (get_member name) (schemas_there o new) ∙ kept name o.schemas new none;
  own_components = λ name other. ap (option_and_then (get name)) (components_there o new) ∙ get_member-put_other name (codes "schemas") _ o.components other;
  own_members = λ name other. get_member-put_other name (codes "components") _ o.api other;
}

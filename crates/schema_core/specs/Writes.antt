-- The text of an object's members, one written after another.
use Rattle.std.specs.Prelude.{◌≡◌, ◌≢◌, ◌≤◌, ℕ, suc, Bool, true, false, List, [], ◌∷◌, ◌++◌, Option, Some, None, option_map, IfSome, codes, string_bytes}
use Rattle.std.specs.BTreeMap.{insert_entry}
use Rattle.std.specs.Cmp.Lexicographic.{slice_cmp}
use Rattle.std.specs.List.{AllByRecursion}
use Rattle.std.specs.Ordering.{nat_cmp}
use Rattle.json.specs.Print.{quoted}
use Rattle.serde_json.specs.Written.{compact_text, items_text, comma_if}
use Rattle.acceptance.specs.Json.{Json, boolean, text, list, Items}
use Rattle.acceptance.specs.Data.{data_of, items_data}
use Rattle.schema_trees.specs.Held.{IsHeld}
use Rattle.schema_trees.specs.declared.annotations.AnnotationKeywords.{AnnotationKeywords as Annotations}
use Rattle.schema_core.specs.declared.alternatives.Alternatives.{Alternatives}
use Rattle.schema_core.specs.Document.{Entry, entries_text}
use Rattle.schema_core.specs.declared.document_text.DocumentText.{DocumentText}
use Rattle.schema_core.specs.Form.{form_by, values_form}

-- the byte stands in a JSON string as it is: it is no quote, no backslash and no control character
abbrev pub IsPlain : ℕ → Type 0
IsPlain byte = (32 ≤ byte) × (byte ≢ 34) × (byte ≢ 92)

-- the value's compact text is written behind the old text, and `serde_json` can hold the value
pub record WritesValue (x : Json) (old new : List ℕ) : Type 0 where
  pub text_is : new ≡ old ++ compact_text (data_of x)
  pub held : IsHeld x

-- the same of the values of a list with commas between, up to the bracket behind them
pub record WritesItems (xs : Items) (old new : List ℕ) : Type 0 where
  pub text_is : new ++ 93 ∷ [] ≡ old ++ items_text false (items_data xs)
  pub held : IsHeld (list xs)

-- whether something stands before what follows
abbrev pub has_some : List Entry → Bool
has_some [] = false
has_some (e ∷ es) = true

-- the text of a document, as far as it is written, is that of these entries, and `serde_json` can hold each schema
pub record HasEntries (by : Alternatives) (es : List Entry) (d : DocumentText) : Type 0 where
  pub text_is : string_bytes d.text ≡ codes "{\"components\":{\"schemas\":{" ++ entries_text by false es
  pub later_is : d.later ≡ has_some es
  pub by_is : d.by ≡ by
  pub held : AllByRecursion (λ e. IsHeld (form_by by e.1)) es

-- a key in quotes, and its colon
abbrev pub key_text : List ℕ → List ℕ
key_text k = quoted k ++ 58 ∷ []

-- a member that may be left out, behind a comma where something stands before
abbrev pub field_text : Bool → List ℕ → Option Json → List ℕ
field_text later k None = []
field_text later k (Some x) = comma_if later ++ (key_text k ++ compact_text (data_of x))

-- whether something stands before what follows
abbrev pub goes_on : Bool → Option Json → Bool
goes_on later None = later
goes_on later (Some x) = true

abbrev pub fields_text : Bool → List (List ℕ × Option Json) → List ℕ
fields_text later [] = []
fields_text later (f ∷ fs) = field_text later f.0 f.1 ++ fields_text (goes_on later f.1) fs

abbrev pub is_later : Bool → List (List ℕ × Option Json) → Bool
is_later later [] = later
is_later later (f ∷ fs) = is_later (goes_on later f.1) fs

-- the members that are given are written behind the old text, and `serde_json` can hold each
pub record Writes (fs : List (List ℕ × Option Json)) (later : Bool) (old : List ℕ) (went : Bool) (new : List ℕ) : Type 0 where
  pub text_is : new ≡ old ++ fields_text later fs
  pub later_is : went ≡ is_later later fs
  pub held : AllByRecursion (λ f. IfSome f.1 IsHeld) fs

-- the same of one member, whose key is given as it is written
abbrev pub WritesAt : List ℕ → Option Json → Bool → List ℕ → Bool → List ℕ → Type 0
WritesAt key given later old went new = (k : List ℕ) → key ≡ key_text k → Writes ((k, given) ∷ []) later old went new

-- annotations whose keys stand together in byte order
abbrev pub first_annotations : Annotations → List (List ℕ × Option Json)
first_annotations annotations =
    (codes "contentEncoding", option_map text annotations.content_encoding) ∷ (codes "contentMediaType", option_map text annotations.content_media_type) ∷ (codes "default", annotations.default)
    ∷ (codes "deprecated", option_map boolean annotations.deprecated) ∷ (codes "description", option_map text annotations.description) ∷ []

abbrev pub example_annotations : Annotations → List (List ℕ × Option Json)
example_annotations annotations = (codes "example", annotations.example) ∷ (codes "examples", values_form annotations.examples) ∷ []

-- all annotations, in byte order of their keys
abbrev pub annotations_in_order : Annotations → List (List ℕ × Option Json)
annotations_in_order annotations =
    first_annotations annotations ++ (example_annotations annotations ++ ((codes "readOnly", option_map boolean annotations.read_only) ∷ (codes "title", option_map text annotations.title)
    ∷ (codes "writeOnly", option_map boolean annotations.write_only) ∷ []))

-- the names with their places, counted from i, are put among others in byte order; of equal names the last place counts
abbrev pub places_from : ℕ → List (List ℕ) → List (List ℕ × ℕ) → List (List ℕ × ℕ)
places_from i [] es = es
places_from i (k ∷ ks) es = places_from (suc i) ks (insert_entry (slice_cmp nat_cmp) es k i)

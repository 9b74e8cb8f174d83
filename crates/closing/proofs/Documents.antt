-- What holds of the document of any components: names in order are distinct, what a reference accepts, and that references have components.
use Rattle.std.proofs.Common.{ℕ, zero, suc, List, [], ◌∷◌, false, ◌||◌, Option, Some, None, option_map, is_some, IsTrue, nat_cmp, Less, is_eq, ◌≡◌, refl, ap, sym, subst, ◌∙◌, ◌↔◌}
use Rattle.std.specs.Cmp.Lexicographic.{slice_cmp}
use Rattle.std.specs.List.{AllByRecursion}
use Rattle.std.specs.List.Sorted.{IsStrictlySortedBy}
use Rattle.std.proofs.lemmas.Map.Text.{is_eq-slice_cmp}
use Rattle.std.proofs.lemmas.Option.{none-some, same_Some}
use Rattle.acceptance.specs.Json.{Json}
use Rattle.acceptance.specs.Json as json
use Rattle.acceptance.specs.Acceptance.{accepts_with, component_schema, component_accepts, accepts, Accepts}
use Rattle.acceptance.specs.References.{EachReference}
use Rattle.texts.specs.Names.{is_in, IsDistinct}
use Rattle.schema_trees.specs.declared.tree.RefLeaf.{RefLeaf}
use Rattle.schema_trees.specs.declared.annotations.AnnotationKeywords.{AnnotationKeywords}
use Rattle.schema_trees.specs.Schema.{SchemaOf, leaf, EachLeaf}
use Rattle.schema_core.specs.declared.alternatives.Alternatives.{Alternatives}
use Rattle.schema_core.specs.declared.alternatives.Alternatives.TheVariants.{OneOf}
use Rattle.schema_core.specs.Form.{form, form_by}
use Rattle.schema_core.specs.Document.{Entry, document_by}
use Rattle.schema_core.specs.Entries.{entry_names, find, IsInOrder}
use Rattle.schema_core.specs.Meaning.{FormsAccept, FormsRefer, DocumentsHold}
use Rattle.closing.specs.Described.{HasComponent}

-- ---- names in order are distinct
absent : (n : List ℕ) (ns : List (List ℕ)) → AllByRecursion (λ m. slice_cmp nat_cmp n m ≡ Less) ns → is_in n ns ≡ false
absent n [] h = refl
absent n (m ∷ ns) h = (λ i. (sym (is_eq-slice_cmp n m) ∙ ap is_eq h.0) i || is_in n ns) ∙ absent n ns h.1

distinct : (ns : List (List ℕ)) → IsInOrder ns → IsDistinct ns
unfolding IsStrictlySortedBy
distinct [] o = tt
distinct (n ∷ ns) o = (absent n ns o.0, distinct ns o.1)

-- the document has under each name the form of its component
pub schema_under : DocumentsHold → (keyword : Alternatives) (cs : List Entry) → IsInOrder (entry_names cs) → (name : List ℕ) → component_schema (document_by keyword cs) name ≡ option_map (form_by keyword) (find name cs)
schema_under holds keyword cs order = holds keyword cs (distinct (entry_names cs) order)

-- ---- references

-- a reference is followed with one step more than what it leads to
pub reference-accepts : FormsAccept → (doc : Json) (name : List ℕ) (annotations : AnnotationKeywords) (s v : Json) → component_schema doc name ≡ Some s → Accepts doc (form (leaf (record { name = name; annotations = annotations }))) v ↔ Accepts doc s v
reference-accepts forms doc name annotations s v e = (there, back)
  where
    reference : SchemaOf RefLeaf
    reference = leaf (record { name = name; annotations = annotations })

    at : (depth : ℕ) → accepts doc (form reference) v depth ≡ component_accepts doc depth name v
    at depth = forms OneOf (component_accepts doc depth) reference tt v

    there : Accepts doc (form reference) v → Accepts doc s v
    there (zero, h) = let never : IsTrue false = subst IsTrue (at zero) h in cc
    there (suc depth, h) = (depth, subst IsTrue (at (suc depth) ∙ (λ i. json.there (e i) (λ t. accepts_with (component_accepts doc depth) t v))) h)

    back : Accepts doc s v → Accepts doc (form reference) v
    back a = (suc a.0, subst IsTrue (sym (at (suc a.0) ∙ (λ i. json.there (e i) (λ t. accepts_with (component_accepts doc a.0) t v)))) a.1)

-- each reference has its component where the leaves of each component's schema name components
pub references-found : FormsRefer → DocumentsHold → (keyword : Alternatives) (cs : List Entry) → IsInOrder (entry_names cs) →
    ((name : List ℕ) (t : SchemaOf RefLeaf) → find name cs ≡ Some t → EachLeaf (λ r. HasComponent (document_by keyword cs) r.name) t) →
    (name : List ℕ) (s : Json) → component_schema (document_by keyword cs) name ≡ Some s → EachReference (HasComponent (document_by keyword cs)) s
references-found refer holds keyword cs order found name s e = by (find name cs) refl (sym (schema_under holds keyword cs order name) ∙ e)
  where
    by : (o : Option (SchemaOf RefLeaf)) → find name cs ≡ o → option_map (form_by keyword) o ≡ Some s → EachReference (HasComponent (document_by keyword cs)) s
    by None f is = absurd (none-some s is)
    by (Some t) f is = subst (EachReference (HasComponent (document_by keyword cs))) (same_Some (form_by keyword t) s is) (refer keyword (λ n. is_some (component_schema (document_by keyword cs) n)) t (found name t f))

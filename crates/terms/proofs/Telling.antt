-- What the schema of a variant accepts tells it, whatever its leaves accept.
use Rattle.std.proofs.Common.{ℕ, List, [], ◌∷◌, ◌++◌, Bool, true, false, ◌&&◌, ◌||◌, Option, Some, None, IsTrue, bytes_eq, ◌≡◌, ◌∙◌, refl, sym, subst}
use Rattle.std.specs.List.{list_all, list_any}
use Rattle.std.proofs.lemmas.Slice.Eq.{bytes_eq-Decides}
use Rattle.acceptance.specs.Json.{Json, null, boolean, number, text, list, map, no_members, member, entries, names, look, there, if_there}
use Rattle.texts.specs.Names.{is_in}
use Rattle.schema_trees.specs.declared.annotations.AnnotationKeywords.{AnnotationKeywords}
use Rattle.schema_trees.specs.Annotations.{no_annotations}
use Rattle.schema_trees.specs.Schema.{SchemaOf, SchemasOf, no_schemas, schema, schemas_of, PropertiesOf, PartOf}
use Rattle.schema_core.specs.Meaning.{tree_accepts, all_accept, properties_accept}
use Rattle.component.specs.Leaves.{LeafOf}
use Rattle.open_types.specs.Open.{Open}
use Rattle.open_types.specs.Open as types
use Rattle.shapes.specs.declared.annotations.Annotations.{Annotations}
use Rattle.shapes.specs.declared.tagging.Tagging.{Tagging}
use Rattle.shapes.specs.declared.tagging.Tagging.TheVariants.{External, Internal, Adjacent, Untagged}
use Rattle.shapes.specs.Declarations.{MemberOf, FlattenedOf, FlattenedMapOf, Others, others_of, FormOf, named_fields, unnamed_fields, no_fields}
use Rattle.shapes.specs.Shape.{is_the, has_member}
use Rattle.shapes.specs.Told.{tells, HasOneTag}
use Rattle.terms.specs.Telling.{SchemasTell, TagsTell, NumbersTell, HasOneName}
use Rattle.terms.specs.Terms.{keywords_of, texts_schema, field_term, others_part, properties_of, required_names, unnamed_term, form_term, tag_schema, tag_alone, own_beside, flattened_terms, tagged_term, with_property, beside_tag, tagged_content, internal_term, told_term, unit_term, variant_form}
use Rattle.shapes.proofs.Laws.{present-more, map-more}
use Rattle.std.proofs.lemmas.Bool.{and_parts, or_left, or_right}
use Rattle.terms.proofs.EnumsAccepted.{there-is, texts-accept, number-accepts, name-accepts, requiring-accepts, tag-accepts, adjacent-accepts, last-property, list_all-last}

left : (a b : Bool) → IsTrue (a && b) → IsTrue a
left a b h = (and_parts a b h).0

right : (a b : Bool) → IsTrue (a && b) → IsTrue b
right a b h = (and_parts a b h).1

both-true : (a b : Bool) → IsTrue a → IsTrue b → IsTrue (a && b)
both-true true b f g = g
both-true false b f g = f

module _ (says : LeafOf → Json → Bool) where
  -- an object that requires a last property, which is a tag
  object-tells : (o : PartOf LeafOf) (keywords : AnnotationKeywords) (ks : List (List ℕ)) (ps : PropertiesOf LeafOf) (tag name : List ℕ) (es : List (List ℕ × Json)) (w u : Bool) →
      IsTrue (properties_accept says (with_property ps tag (tag_schema name)) es && (w && (list_all (λ k. is_in k (names es)) (ks ++ tag ∷ []) && u))) → IsTrue (there (look tag es) (is_the name))
  object-tells o keywords ks ps tag name es w u h =
      let p : IsTrue (properties_accept says (with_property ps tag (tag_schema name)) es) = left (properties_accept says (with_property ps tag (tag_schema name)) es) (w && (list_all (λ k. is_in k (names es)) (ks ++ tag ∷ []) && u)) h in
      let q : IsTrue (w && (list_all (λ k. is_in k (names es)) (ks ++ tag ∷ []) && u)) = right (properties_accept says (with_property ps tag (tag_schema name)) es) (w && (list_all (λ k. is_in k (names es)) (ks ++ tag ∷ []) && u)) h in
      let r : IsTrue (list_all (λ k. is_in k (names es)) (ks ++ tag ∷ [])) = left (list_all (λ k. is_in k (names es)) (ks ++ tag ∷ [])) u (right w (list_all (λ k. is_in k (names es)) (ks ++ tag ∷ []) && u) q) in
      let it : IsTrue (is_in tag (names es)) = right (list_all (λ k. is_in k (names es)) ks) (is_in tag (names es)) (subst IsTrue (list_all-last (λ k. is_in k (names es)) ks tag) r) in
      let here : IsTrue (if_there (look tag es) (tree_accepts says (tag_schema name))) = right (properties_accept says ps es) (if_there (look tag es) (tree_accepts says (tag_schema name))) (subst IsTrue (last-property says ps tag (tag_schema name) es) p) in
      let both : IsTrue (if_there (look tag es) (tree_accepts says (tag_schema name)) && is_in tag (names es)) = both-true (if_there (look tag es) (tree_accepts says (tag_schema name))) (is_in tag (names es)) here it in
      subst IsTrue (there-is tag (tree_accepts says (tag_schema name)) es ∙ (λ i. there (look tag es) (λ x. name-accepts says name x i))) both

  flattened-last : (js : List FlattenedOf) (more : SchemasOf LeafOf) (v : Json) → IsTrue (all_accept says (flattened_terms js more) v) → IsTrue (all_accept says more v)
  flattened-last [] more v h = h
  flattened-last (j ∷ js) more v h = flattened-last js more v (right (tree_accepts says (field_term j.annotations j.of) v) (all_accept says (flattened_terms js more) v) h)

  own-last : (x : Option FlattenedMapOf) (o : Others) (ms : List MemberOf) (more : SchemasOf LeafOf) (v : Json) → IsTrue (all_accept says (own_beside x o ms more) v) → IsTrue (all_accept says more v)
  own-last None o [] more v h = h
  own-last None o (m ∷ ms) more v h = right _ (all_accept says more v) h
  own-last (Some x) o ms more v h = right _ (all_accept says more v) h

  alone-tells : (keywords : AnnotationKeywords) (tag name : List ℕ) (v : Json) → IsTrue (tree_accepts says (tag_alone keywords tag name) v) → IsTrue (has_member tag (is_the name) v)
  alone-tells keywords tag name v h = subst IsTrue (tag-accepts says keywords tag name v) h

  beside-tells : (keywords : AnnotationKeywords) (tag name : List ℕ) (s : SchemaOf LeafOf) (v : Json) → IsTrue (tree_accepts says (beside_tag keywords tag name s) v) → IsTrue (has_member tag (is_the name) v)
  beside-tells keywords tag name s v h =
      alone-tells no_annotations tag name v (left (tree_accepts says (tag_alone no_annotations tag name) v) true (right (tree_accepts says s v) (tree_accepts says (tag_alone no_annotations tag name) v && true) h))

  fields-tell : (r : Annotations) (tag name : List ℕ) (js : List FlattenedOf) (x : Option FlattenedMapOf) (o : Others) (ms : List MemberOf) (v : Json) →
      IsTrue (tree_accepts says (tagged_term r tag name js x o ms) v) → IsTrue (has_member tag (is_the name) v)
  fields-tell r tag name [] x o ms (map es) h =
      object-tells (others_part o) (keywords_of r) (required_names ms) (properties_of ms) tag name (entries es) _ true h
  fields-tell r tag name [] x o ms null h = h
  fields-tell r tag name [] x o ms (boolean b) h = h
  fields-tell r tag name [] x o ms (number n) h = h
  fields-tell r tag name [] x o ms (text s) h = h
  fields-tell r tag name [] x o ms (list xs) h = h
  fields-tell r tag name (j ∷ js) x o ms v h =
      alone-tells (keywords_of r) tag name v
      (left (tree_accepts says (tag_alone (keywords_of r) tag name) v) true
      (own-last x o ms (schema (tag_alone (keywords_of r) tag name) no_schemas) v (flattened-last (j ∷ js) (own_beside x o ms (schema (tag_alone (keywords_of r) tag name) no_schemas)) v h)))

  content-tells : (keywords : AnnotationKeywords) (tag name : List ℕ) (t : Open) (s : SchemaOf LeafOf) (v : Json) → IsTrue (tree_accepts says (tagged_content keywords tag name t s) v) → IsTrue (has_member tag (is_the name) v)
  content-tells keywords tag name (types.leaf l) s (map es) h = object-tells Rattle.schema_trees.specs.Schema.no_part keywords [] Rattle.schema_trees.specs.Schema.no_properties tag name (entries es) true _ h
  content-tells keywords tag name (types.leaf l) s null h = h
  content-tells keywords tag name (types.leaf l) s (boolean b) h = h
  content-tells keywords tag name (types.leaf l) s (number n) h = h
  content-tells keywords tag name (types.leaf l) s (text t) h = h
  content-tells keywords tag name (types.leaf l) s (list xs) h = h
  content-tells keywords tag name types.any_value s v h = alone-tells keywords tag name v h
  content-tells keywords tag name (types.named d ts) s v h = beside-tells keywords tag name s v h
  content-tells keywords tag name (types.through k t) s v h = beside-tells keywords tag name s v h
  content-tells keywords tag name types.free_object s v h = beside-tells keywords tag name s v h
  content-tells keywords tag name types.unit s v h = beside-tells keywords tag name s v h
  content-tells keywords tag name (types.tuple ts) s v h = beside-tells keywords tag name s v h
  content-tells keywords tag name (types.items k t) s v h = beside-tells keywords tag name s v h
  content-tells keywords tag name (types.set k t) s v h = beside-tells keywords tag name s v h
  content-tells keywords tag name (types.map_of k s' t) s v h = beside-tells keywords tag name s v h
  content-tells keywords tag name (types.option t) s v h = beside-tells keywords tag name s v h
  content-tells keywords tag name (types.param i) s v h = beside-tells keywords tag name s v h

  internal-tells : (r : Annotations) (tag name : List ℕ) (form : FormOf) (v : Json) → IsTrue (tree_accepts says (internal_term r tag name form) v) → IsTrue (has_member tag (is_the name) v)
  internal-tells r tag name (named_fields b ms) v h = fields-tell r tag name b.flattened b.map (others_of b) ms v h
  internal-tells r tag name (unnamed_fields []) v h = beside-tells (keywords_of r) tag name (unnamed_term r []) v h
  internal-tells r tag name (unnamed_fields (t ∷ [])) v h = content-tells (keywords_of r) tag name t (unnamed_term r (t ∷ [])) v h
  internal-tells r tag name (unnamed_fields (t ∷ u ∷ us)) v h = beside-tells (keywords_of r) tag name (unnamed_term r (t ∷ u ∷ us)) v h
  internal-tells r tag name no_fields v h = alone-tells (keywords_of r) tag name v h

  told-tells : (r : Annotations) (tagging : Tagging) (name : List ℕ) (form : FormOf) (v : Json) → IsTrue (tree_accepts says (told_term r tagging name form) v) → IsTrue (tells tagging name v)
  told-tells r External name form v h =
      or_right (is_the name v) (has_member name (λ x. true) v)
      (map-more (λ es. there (look name es) (tree_accepts says (form_term r form))) (λ es. there (look name es) (λ x. true))
      (λ es. present-more (tree_accepts says (form_term r form)) (λ x. true) (λ x g. refl) (look name es)) v
      (subst IsTrue (requiring-accepts says (keywords_of r) name (form_term r form) v) h))
  told-tells r (Internal tag) name form v h = internal-tells r tag name form v h
  told-tells r (Adjacent tag content) name form v h =
      map-more (λ es. there (look tag es) (is_the name) && there (look content es) (tree_accepts says (form_term r form))) (λ es. there (look tag es) (is_the name))
      (λ es g. left (there (look tag es) (is_the name)) (there (look content es) (tree_accepts says (form_term r form))) g) v
      (subst IsTrue (adjacent-accepts says (keywords_of r) tag content name (form_term r form) v) h)
  told-tells r Untagged name form v h = refl

  unit-tells : (r : Annotations) (tagging : Tagging) (name : List ℕ) (v : Json) → IsTrue (tree_accepts says (unit_term r tagging name) v) → IsTrue (tells tagging name v)
  unit-tells r External name v h = or_left (is_the name v) (has_member name (λ x. true) v) (subst IsTrue (name-accepts-noted (keywords_of r) name v) h)
    where
      or-none : (a : Bool) → (a || false) ≡ a
      or-none true = refl
      or-none false = refl

      name-accepts-noted : (keywords : AnnotationKeywords) (name : List ℕ) (v : Json) → tree_accepts says (texts_schema keywords (name ∷ [])) v ≡ is_the name v
      name-accepts-noted keywords name v = texts-accept says keywords (name ∷ []) v ∙ or-none (is_the name v)
  unit-tells r (Internal tag) name v h = alone-tells (keywords_of r) tag name v h
  unit-tells r (Adjacent tag content) name v h = alone-tells (keywords_of r) tag name v h
  unit-tells r Untagged name v h = refl

  form-tells : (r : Annotations) (tagging : Tagging) (name : List ℕ) (form : FormOf) (v : Json) → IsTrue (tree_accepts says (variant_form r tagging name form) v) → IsTrue (tells tagging name v)
  form-tells r tagging name no_fields v h = unit-tells r tagging name v h
  form-tells r tagging name (named_fields b ms) v h = told-tells r tagging name (named_fields b ms) v h
  form-tells r tagging name (unnamed_fields ts) v h = told-tells r tagging name (unnamed_fields ts) v h

pub schemas-tell : SchemasTell
schemas-tell says tagging x v h = form-tells says x.annotations tagging x.name x.form v h

pub tags-tell : TagsTell
tags-tell says tag name v h = alone-tells says no_annotations tag name v h

pub numbers-tell : NumbersTell
numbers-tell says tag n v h = subst IsTrue (number-accepts says tag n v) h

-- ---- one name

equal-names : (a b : List ℕ) → IsTrue (bytes_eq a b) → a ≡ b
equal-names a b e = (bytes_eq-Decides a b).0 e

-- a text and a map of one member tell one name
text-told : (s a : List ℕ) → IsTrue (is_the a (text s) || has_member a (λ x. true) (text s)) → s ≡ a
text-told s a h = by (bytes_eq s a) refl h
  where
    by : (b : Bool) → bytes_eq s a ≡ b → IsTrue (b || false) → s ≡ a
    by true e g = equal-names s a e
    by false e g = cc

member-told : (k a : List ℕ) (x : Json) → IsTrue (is_the a (map (member k x no_members)) || has_member a (λ y. true) (map (member k x no_members))) → a ≡ k
member-told k a x h = by (bytes_eq a k) refl h
  where
    by : (b : Bool) → bytes_eq a k ≡ b → IsTrue (there (Rattle.std.specs.Prelude.cond b (Some x) None) (λ y. true)) → a ≡ k
    by true e g = equal-names a k e
    by false e g = cc

pub one-name : HasOneTag → HasOneName
one-name one External a b (text s) d h g = sym (text-told s a h) ∙ text-told s b g
one-name one External a b (map (member k x no_members)) d h g = member-told k a x h ∙ sym (member-told k b x g)
one-name one External a b (map no_members) d h g = absurd d
one-name one External a b (map (member k x (member l y ms))) d h g = absurd d
one-name one External a b null d h g = absurd d
one-name one External a b (boolean c) d h g = absurd d
one-name one External a b (number n) d h g = absurd d
one-name one External a b (list xs) d h g = absurd d
one-name one (Internal tag) a b v d h g = one tag a b v h g
one-name one (Adjacent tag content) a b v d h g = one tag a b v h g
one-name one Untagged a b v d h g = absurd d

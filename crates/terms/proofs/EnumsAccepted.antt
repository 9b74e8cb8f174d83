-- What the schemas of enums accept: each variant what has its shape, and the whole what fits one of them.
use Rattle.std.proofs.Common.{ℕ, ℤ, List, [], ◌∷◌, ◌++◌, Bool, true, false, ◌&&◌, ◌||◌, cond, Option, Some, None, option_map, bytes_eq, map as map_over, ◌≡◌, refl, ap, sym, subst, ◌∙◌}
use Rattle.std.specs.List.{list_all, list_any}
use Rattle.std.specs.Ordering.{int_eq}
use Rattle.std.proofs.Math.Bool.{or-false}
use Rattle.acceptance.specs.Acceptance.{others_pass}
use Rattle.acceptance.specs.Json.{Json, Members, null, boolean, number, text, list, map, entries, names, look, same, there, if_there}
use Rattle.texts.specs.Names.{is_in}
use Rattle.schema_trees.specs.declared.annotations.AnnotationKeywords.{AnnotationKeywords}
use Rattle.schema_trees.specs.Annotations.{annotations_of, no_annotations, where_true}
use Rattle.schema_trees.specs.Schema.{SchemaOf, no_schemas, schema, schemas_of, PropertiesOf, property_names}
use Rattle.schema_trees.specs.Schema as tree
use Rattle.schema_core.specs.proved.Bound.{bind-accepts}
use Rattle.schema_core.specs.Meaning.{tree_accepts, some_accepts, all_accept, properties_accept, where_given}
use Rattle.open_types.specs.Laws.{SameIsEqual, SubstitutedNone}
use Rattle.component.specs.Leaves.{LeafOf}
use Rattle.component.specs.Leaves as leaves
use Rattle.component.specs.Places.{PlaceOf, inside, place}
use Rattle.open_types.specs.Open.{Open, Opens, no_types, argument_at, substituted}
use Rattle.open_types.specs.Open as types
use Rattle.shapes.specs.declared.annotations.Annotations.{Annotations}
use Rattle.shapes.specs.declared.tagging.Tagging.{Tagging}
use Rattle.shapes.specs.declared.tagging.Tagging.TheVariants.{External, Internal, Adjacent, Untagged}
use Rattle.shapes.specs.Declarations.{MemberOf, FlattenedOf, FlattenedMapOf, BesideOf, Others, any, none, each, others_beside, FormOf, named_fields, unnamed_fields, no_fields, VariantOf, BodyOf, fields, units, numbers, variants, DeclarationOf, member_types, member_names}
use Rattle.shapes.specs.Instances.{member_over, flattened_over, flattened_map_over, beside_over, form_over, variant_over, body_over}
use Rattle.terms.specs.InstanceTerms.{with_arguments}
use Rattle.shapes.specs.Shape.{is_null, is_map, others_fit, flattened_fits, is_the, is_that, has_member, type_shape, member_fits, form_shape, unit_shape, number_shape, internal_shape, told_shape, fields_shape, variant_shape, body_shape}
use Rattle.shapes.specs.Plain.{IsPlainType, AreAllPlain, IsContent, IsPlainBeside, IsPlainForm, CanBeTagged, IsPlainVariant, ArePlainVariants, KeepsVariant, IsPlainBody}
use Rattle.terms.specs.Terms.{keywords_of, field_place, field_term, properties_of, required_names, others_part, own_beside, numbers_schema, number_alone, numbers_term, tagged_term, object_of, unnamed_term, form_term, texts_schema, requiring, tag_schema, tag_alone, null_term, units_term, unit_term, with_property, beside_tag, tagged_content, internal_term, adjacent_term, told_term, variant_form, variant_term, body_term, term}
use Rattle.terms.specs.Meaning.{leaf_shape, HoldMaps, TermsAccept, InstanceTermsAccept, PlacesAccept}
use Rattle.terms.proofs.Accepted.{and-true, and-assoc, and-last, property_names-are, null-accepts, place-accepts, members-accept, ArePlainOthers, others_over, others-accept, own-accepts, flattened-accept, form-accepts, closed-accepts}

-- ---- conditions

tagged-pairs : (a b c d : Bool) → ((a && b) && ((c && d) && true)) ≡ ((a && (c && true)) && (b && d))
tagged-pairs true true true d = and-true d
tagged-pairs true true false d = refl
tagged-pairs true false true d = refl
tagged-pairs true false false d = refl
tagged-pairs false b c d = refl

and-false : (b : Bool) → (b && false) ≡ false
and-false true = refl
and-false false = refl

both-there : (a b c d : Bool) → ((a && (b && true)) && ((c && (d && true)) && true)) ≡ ((b && d) && (a && c))
both-there true true true true = refl
both-there true true true false = refl
both-there true true false d = sym (and-false d)
both-there true false c d = refl
both-there false b c d = sym (and-false (b && d))

pub list_all-last : {A : Type 0} (p : A → Bool) (xs : List A) (x : A) → list_all p (xs ++ x ∷ []) ≡ (list_all p xs && p x)
list_all-last p [] x = and-true (p x)
list_all-last p (y ∷ ys) x = ap (λ b. p y && b) (list_all-last p ys x) ∙ sym (and-assoc (p y) (list_all p ys) (p x))

-- ---- texts and tags

no-one : {A : Type 0} (xs : List A) → list_any (λ x. false) xs ≡ false
no-one [] = refl
no-one (x ∷ xs) = no-one xs

every-one : {A : Type 0} (b : Bool) (x : A) (xs : List A) → b ≡ list_any (λ y. b) (x ∷ xs)
every-one true x xs = refl
every-one false x xs = sym (no-one xs)

same-texts : (s : List ℕ) (names : List (List ℕ)) → list_any (same (text s)) (map_over text names) ≡ list_any (λ name. is_the name (text s)) names
same-texts s [] = refl
same-texts s (name ∷ names) = ap (λ b. bytes_eq s name || b) (same-texts s names)

-- a member that passes where it is there, and that is there
pub there-is : (k : List ℕ) (p : Json → Bool) (es : List (List ℕ × Json)) → (if_there (look k es) p && is_in k (names es)) ≡ there (look k es) p
there-is k p [] = refl
there-is k p (e ∷ es) = by (bytes_eq k e.0) (there-is k p es)
  where
    by : (b : Bool) → (if_there (look k es) p && is_in k (names es)) ≡ there (look k es) p → (if_there (cond b (Some e.1) (look k es)) p && (b || is_in k (names es))) ≡ there (cond b (Some e.1) (look k es)) p
    by true h = and-true (p e.1)
    by false h = h

module _ {X : Type 0} (says : X → Json → Bool) where
  pub texts-accept : (keywords : AnnotationKeywords) (ns : List (List ℕ)) (v : Json) → tree_accepts says (texts_schema keywords ns) v ≡ list_any (λ name. is_the name v) ns
  texts-accept keywords ns (text s) = and-true (list_any (same (text s)) (map_over text ns)) ∙ same-texts s ns
  texts-accept keywords ns null = sym (no-one ns)
  texts-accept keywords ns (boolean b) = sym (no-one ns)
  texts-accept keywords ns (number n) = sym (no-one ns)
  texts-accept keywords ns (list xs) = sym (no-one ns)
  texts-accept keywords ns (map ms) = sym (no-one ns)

  pub name-accepts : (name : List ℕ) (v : Json) → tree_accepts says (tag_schema name) v ≡ is_the name v
  name-accepts name v = texts-accept no_annotations (name ∷ []) v ∙ or-false (is_the name v)

  same-numbers : (m : ℤ) (ns : List ℤ) → list_any (same (number m)) (map_over number ns) ≡ list_any (λ n. is_that n (number m)) ns
  same-numbers m [] = refl
  same-numbers m (n ∷ ns) = ap (λ b. int_eq m n || b) (same-numbers m ns)

  numbers-accept : (keywords : AnnotationKeywords) (ns : List ℤ) (v : Json) → tree_accepts says (numbers_schema keywords ns) v ≡ list_any (λ n. is_that n v) ns
  numbers-accept keywords ns (number m) = and-true (list_any (same (number m)) (map_over number ns)) ∙ same-numbers m ns
  numbers-accept keywords ns null = sym (no-one ns)
  numbers-accept keywords ns (boolean b) = sym (no-one ns)
  numbers-accept keywords ns (text s) = sym (no-one ns)
  numbers-accept keywords ns (list xs) = sym (no-one ns)
  numbers-accept keywords ns (map ms) = sym (no-one ns)

  pub requiring-accepts : (keywords : AnnotationKeywords) (k : List ℕ) (s : SchemaOf X) (v : Json) → tree_accepts says (requiring keywords k s) v ≡ has_member k (tree_accepts says s) v
  requiring-accepts keywords k s (map ms) =
      let at : Bool = if_there (look k (entries ms)) (tree_accepts says s) in
      let is : Bool = is_in k (names (entries ms)) in
      (λ i. and-true at i && (and-true (is && true) ∙ and-true is) i) ∙ there-is k (tree_accepts says s) (entries ms)
  requiring-accepts keywords k s null = refl
  requiring-accepts keywords k s (boolean b) = refl
  requiring-accepts keywords k s (number n) = refl
  requiring-accepts keywords k s (text t) = refl
  requiring-accepts keywords k s (list xs) = refl

  pub tag-accepts : (keywords : AnnotationKeywords) (tag name : List ℕ) (v : Json) → tree_accepts says (tag_alone keywords tag name) v ≡ has_member tag (is_the name) v
  tag-accepts keywords tag name v = requiring-accepts keywords tag (tag_schema name) v ∙ (λ i. has_member tag (λ w. name-accepts name w i) v)

  tags-accept : (tag : List ℕ) (ns : List (List ℕ)) (v : Json) → some_accepts says (schemas_of (map_over (tag_alone no_annotations tag) ns)) v ≡ list_any (λ name. has_member tag (is_the name) v) ns
  tags-accept tag [] v = refl
  tags-accept tag (name ∷ ns) v = λ i. tag-accepts no_annotations tag name v i || tags-accept tag ns v i

  pub number-accepts : (tag : List ℕ) (n : ℤ) (v : Json) → tree_accepts says (number_alone tag n) v ≡ has_member tag (is_that n) v
  number-accepts tag n v =
      requiring-accepts no_annotations tag (numbers_schema no_annotations (n ∷ [])) v
      ∙ (λ i. has_member tag (λ w. (numbers-accept no_annotations (n ∷ []) w ∙ or-false (is_that n w)) i) v)

  number-tags-accept : (tag : List ℕ) (ns : List ℤ) (v : Json) → some_accepts says (schemas_of (map_over (number_alone tag) ns)) v ≡ list_any (λ n. has_member tag (is_that n) v) ns
  number-tags-accept tag [] v = refl
  number-tags-accept tag (n ∷ ns) v = λ i. number-accepts tag n v i || number-tags-accept tag ns v i

  -- ---- a property behind others

  pub last-property : (ps : PropertiesOf X) (k : List ℕ) (s : SchemaOf X) (es : List (List ℕ × Json)) →
      properties_accept says (with_property ps k s) es ≡ (properties_accept says ps es && if_there (look k es) (tree_accepts says s))
  last-property tree.no_properties k s es = and-true (if_there (look k es) (tree_accepts says s))
  last-property (tree.property j t ps) k s es =
      ap (λ b. if_there (look j es) (tree_accepts says t) && b) (last-property ps k s es)
      ∙ sym (and-assoc (if_there (look j es) (tree_accepts says t)) (properties_accept says ps es) (if_there (look k es) (tree_accepts says s)))

  -- a content and a tag
  pub adjacent-accepts : (keywords : AnnotationKeywords) (tag content name : List ℕ) (s : SchemaOf X) (v : Json) →
      tree_accepts says (adjacent_term keywords tag content name s) v ≡ is_map v (λ es. there (look tag es) (is_the name) && there (look content es) (tree_accepts says s))
  adjacent-accepts keywords tag content name s (map ms) =
      let es = entries ms in
      both-there (if_there (look content es) (tree_accepts says s)) (if_there (look tag es) (tree_accepts says (tag_schema name))) (is_in content (names es)) (is_in tag (names es))
      ∙ (λ i. there-is tag (tree_accepts says (tag_schema name)) es i && there-is content (tree_accepts says s) es i)
      ∙ (λ i. there (look tag es) (λ w. name-accepts name w i) && there (look content es) (tree_accepts says s))
  adjacent-accepts keywords tag content name s null = refl
  adjacent-accepts keywords tag content name s (boolean b) = refl
  adjacent-accepts keywords tag content name s (number n) = refl
  adjacent-accepts keywords tag content name s (text t) = refl
  adjacent-accepts keywords tag content name s (list xs) = refl

  -- a schema beside an object that has the tag
  beside-accepts : (keywords : AnnotationKeywords) (tag name : List ℕ) (s : SchemaOf X) (v : Json) (b : Bool) → tree_accepts says s v ≡ b → tree_accepts says (beside_tag keywords tag name s) v ≡ (b && has_member tag (is_the name) v)
  beside-accepts keywords tag name s v b e = λ i. e i && (and-true (tree_accepts says (tag_alone no_annotations tag name) v) ∙ tag-accepts no_annotations tag name v) i

last-name : {X : Type 0} (ps : PropertiesOf X) (k : List ℕ) (s : SchemaOf X) → property_names (with_property ps k s) ≡ property_names ps ++ k ∷ []
last-name tree.no_properties k s = refl
last-name (tree.property j t ps) k s = ap (λ ns. j ∷ ns) (last-name ps k s)

maps-both : (v : Json) (p q : List (List ℕ × Json) → Bool) → (is_map v p && is_map v q) ≡ is_map v (λ es. p es && q es)
maps-both (map ms) p q = refl
maps-both _ p q = refl

true-between : (a b : Bool) → ((a && true) && b) ≡ ((a && b) && true)
true-between a b = (λ i. and-true a i && b) ∙ sym (and-true (a && b))

module _ (equal : SameIsEqual) (ss : List DeclarationOf) (instance : Open → Json → Bool) (maps : HoldMaps ss instance) (args : Opens) (says : LeafOf → Json → Bool)
    (at_named : (d : ℕ) (ts : Opens) (inline : Bool) (keywords : AnnotationKeywords) (v : Json) → says (leaves.named (types.named d ts) inline keywords) v ≡ type_shape instance (substituted args (types.named d ts)) v)
    (at_param : (i : ℕ) → IsPlainType ss (argument_at args i) → (v : Json) → says (leaves.param i) v ≡ type_shape instance (argument_at args i) v) where
  abbrev members_over : List MemberOf → List MemberOf
  members_over ms = map_over (member_over args) ms

  at-place : (at : PlaceOf) (t : Open) → IsPlainType ss (substituted args t) → (v : Json) →
      tree_accepts says (place at t) v ≡ ((at.nullable && is_null v) || type_shape instance (substituted args t) v)
  at-place = place-accepts ss instance args says at_named at_param

  at-form : (r : Annotations) (form : FormOf) → IsPlainForm ss (form_over args form) → (v : Json) → tree_accepts says (form_term r form) v ≡ form_shape instance (form_over args form) v
  at-form = form-accepts ss instance args says at_named at_param equal maps

  abbrev IsPlainOthers : Others → Type 0
  IsPlainOthers = ArePlainOthers ss instance args says at_named at_param

  abbrev over_args : Others → Others
  over_args = others_over ss instance args says at_named at_param

  abbrev flattened_args : List FlattenedOf → List FlattenedOf
  flattened_args fs = map_over (flattened_over args) fs

  -- ---- variants without fields

  numbers-term-accepts : (r : Annotations) (tagging : Tagging) (ns : List ℤ) → KeepsVariant tagging ns → (v : Json) →
      tree_accepts says (numbers_term r tagging ns) v ≡ list_any (λ n. number_shape tagging n v) ns
  numbers-term-accepts r External ns h v = numbers-accept says (keywords_of r) ns v
  numbers-term-accepts r (Internal tag) ns h v = number-tags-accept says tag ns v
  numbers-term-accepts r (Adjacent tag content) ns h v = number-tags-accept says tag ns v
  numbers-term-accepts r Untagged [] h v = absurd h
  numbers-term-accepts r Untagged (n ∷ ns) h v = null-accepts says (annotations_of r.description (Some null) (where_true r.deprecated)) v ∙ every-one (is_null v) n ns

  units-accept : (r : Annotations) (tagging : Tagging) (ns : List (List ℕ)) → KeepsVariant tagging ns → (v : Json) →
      tree_accepts says (units_term r tagging ns) v ≡ list_any (λ name. unit_shape tagging name v) ns
  units-accept r External ns h v = texts-accept says (keywords_of r) ns v
  units-accept r (Internal tag) ns h v = tags-accept says tag ns v
  units-accept r (Adjacent tag content) ns h v = tags-accept says tag ns v
  units-accept r Untagged [] h v = absurd h
  units-accept r Untagged (name ∷ ns) h v = nothing-accepts r v ∙ every-one (is_null v) name ns
    where
      nothing-accepts : (r : Annotations) (v : Json) → tree_accepts says (null_term r) v ≡ is_null v
      nothing-accepts r v = null-accepts says (annotations_of r.description (Some null) (where_true r.deprecated)) v

  unit-accepts : (r : Annotations) (tagging : Tagging) (name : List ℕ) (v : Json) → tree_accepts says (unit_term r tagging name) v ≡ unit_shape tagging name v
  unit-accepts r External name v = texts-accept says (keywords_of r) (name ∷ []) v ∙ or-false (is_the name v)
  unit-accepts r (Internal tag) name v = tag-accepts says (keywords_of r) tag name v
  unit-accepts r (Adjacent tag content) name v = tag-accepts says (keywords_of r) tag name v
  unit-accepts r Untagged name v = null-accepts says (annotations_of r.description (Some null) (where_true r.deprecated)) v

  -- ---- a tag among the members

  tagged-members : (tag name : List ℕ) (ms : List MemberOf) → AreAllPlain ss (member_types (members_over ms)) → (es : List (List ℕ × Json)) →
      (properties_accept says (with_property (properties_of ms) tag (tag_schema name)) es && (list_all (λ k. is_in k (names es)) (required_names ms ++ tag ∷ []) && true))
      ≡ (list_all (member_fits instance es) (members_over ms) && there (look tag es) (is_the name))
  tagged-members tag name ms h es =
      (λ i. last-property says (properties_of ms) tag (tag_schema name) es i && (list_all-last (λ k. is_in k (names es)) (required_names ms) tag i && true))
      ∙ tagged-pairs (properties_accept says (properties_of ms) es) (if_there (look tag es) (tree_accepts says (tag_schema name))) (list_all (λ k. is_in k (names es)) (required_names ms)) (is_in tag (names es))
      ∙ (λ i. members-accept ss instance args says at_named at_param ms h es i && there-is tag (λ w. name-accepts says name w i) es i)

  internal-fields : (o : Others) → IsPlainOthers o → (keywords : AnnotationKeywords) (tag name : List ℕ) (ms : List MemberOf) → AreAllPlain ss (member_types (members_over ms)) → (es : Members) →
      tree_accepts says (object_of keywords (others_part o) (required_names ms ++ tag ∷ []) (with_property (properties_of ms) tag (tag_schema name))) (map es)
      ≡ ((list_all (member_fits instance (entries es)) (members_over ms) && there (look tag (entries es)) (is_the name)) && others_fit instance (member_names (members_over ms) ++ tag ∷ []) (over_args o) (entries es))
  internal-fields o ho keywords tag name ms h es =
      and-last (properties_accept says (with_property (properties_of ms) tag (tag_schema name)) (entries es))
      (where_given says (others_part o) (λ accepts. others_pass (property_names (with_property (properties_of ms) tag (tag_schema name))) accepts (entries es)))
      (list_all (λ k. is_in k (names (entries es))) (required_names ms ++ tag ∷ []) && true)
      ∙ (λ i. tagged-members tag name ms h (entries es) i
      && others-accept ss instance args says at_named at_param o ho ((last-name (properties_of ms) tag (tag_schema name) ∙ ap (λ ns. ns ++ tag ∷ []) (property_names-are args ms)) i) (entries es) i)

  internal-own : (o : Others) → IsPlainOthers o → (keywords : AnnotationKeywords) (tag name : List ℕ) (ms : List MemberOf) → AreAllPlain ss (member_types (members_over ms)) → (v : Json) →
      tree_accepts says (object_of keywords (others_part o) (required_names ms ++ tag ∷ []) (with_property (properties_of ms) tag (tag_schema name))) v
      ≡ is_map v (λ es. (list_all (member_fits instance es) (members_over ms) && there (look tag es) (is_the name)) && others_fit instance (member_names (members_over ms) ++ tag ∷ []) (over_args o) es)
  internal-own o ho keywords tag name ms h (map es) = internal-fields o ho keywords tag name ms h es
  internal-own o ho keywords tag name ms h null = refl
  internal-own o ho keywords tag name ms h (boolean b) = refl
  internal-own o ho keywords tag name ms h (number n) = refl
  internal-own o ho keywords tag name ms h (text t) = refl
  internal-own o ho keywords tag name ms h (list xs) = refl

  -- behind what is flattened: the own object where it says something, and the tag
  internal-beside : (r : Annotations) (tag name : List ℕ) (ms : List MemberOf) → AreAllPlain ss (member_types (members_over ms)) → (v : Json) →
      all_accept says (own_beside None any ms (schema (tag_alone (keywords_of r) tag name) no_schemas)) v
      ≡ is_map v (λ es. (list_all (member_fits instance es) (members_over ms) && there (look tag es) (is_the name)) && true)
  internal-beside r tag name [] h v =
      and-true (tree_accepts says (tag_alone (keywords_of r) tag name) v)
      ∙ tag-accepts says (keywords_of r) tag name v
      ∙ (λ i. is_map v (λ es. sym (and-true (there (look tag es) (is_the name))) i))
  internal-beside r tag name (m ∷ ms) h v =
      (λ i. own-accepts ss instance args says at_named at_param any tt no_annotations (m ∷ ms) h v i
      && (and-true (tree_accepts says (tag_alone (keywords_of r) tag name) v) ∙ tag-accepts says (keywords_of r) tag name v) i)
      ∙ maps-both v (λ es. list_all (member_fits instance es) (members_over (m ∷ ms)) && true) (λ es. there (look tag es) (is_the name))
      ∙ (λ i. is_map v (λ es. true-between (list_all (member_fits instance es) (members_over (m ∷ ms))) (there (look tag es) (is_the name)) i))

  tagged-accepts : (denies : Bool) (fs : List FlattenedOf) (x : Option FlattenedMapOf) → IsPlainBeside ss denies (flattened_args fs) (option_map (flattened_map_over args) x) →
      (r : Annotations) (tag name : List ℕ) (ms : List MemberOf) → AreAllPlain ss (member_types (members_over ms)) → (v : Json) →
      tree_accepts says (tagged_term r tag name fs x (others_beside denies fs x) ms) v
      ≡ (list_all (flattened_fits instance v) (flattened_args fs)
      && is_map v (λ es. (list_all (member_fits instance es) (members_over ms) && there (look tag es) (is_the name))
      && others_fit instance (member_names (members_over ms) ++ tag ∷ []) (others_beside denies (flattened_args fs) (option_map (flattened_map_over args) x)) es))
  tagged-accepts false [] None hb r tag name ms h v = internal-own any tt (keywords_of r) tag name ms h v
  tagged-accepts true [] None hb r tag name ms h v = internal-own none tt (keywords_of r) tag name ms h v
  tagged-accepts false [] (Some x) hb r tag name ms h v = internal-own (each x) hb.1 (keywords_of r) tag name ms h v
  tagged-accepts true [] (Some x) hb r tag name ms h v = absurd hb
  tagged-accepts false (f ∷ fs) None hb r tag name ms h v =
      flattened-accept ss instance args says at_named at_param (f ∷ fs) hb (own_beside None any ms (schema (tag_alone (keywords_of r) tag name) no_schemas)) v
      ∙ (λ i. list_all (flattened_fits instance v) (flattened_args (f ∷ fs)) && internal-beside r tag name ms h v i)
  tagged-accepts false (f ∷ fs) (Some x) hb r tag name ms h v = absurd hb
  tagged-accepts true (f ∷ fs) None hb r tag name ms h v = absurd hb
  tagged-accepts true (f ∷ fs) (Some x) hb r tag name ms h v = absurd hb

  -- Whether a content is a leaf or any value is told over the parameters. Where the content is a map that lets a tag stand among its members, it is neither.
  content-accepts : (r : Annotations) (tag name : List ℕ) (t : Open) → IsContent ss (substituted args t) → AreAllPlain ss (substituted args t ∷ []) → (v : Json) →
      tree_accepts says (tagged_content (keywords_of r) tag name t (unnamed_term r (t ∷ []))) v ≡ (type_shape instance (substituted args t) v && has_member tag (is_the name) v)
  content-accepts r tag name (types.named d ts) c h v = beside-accepts says (keywords_of r) tag name (field_term r (types.named d ts)) v _ (at-place (field_place r) (types.named d ts) h.0 v)
  content-accepts r tag name (types.through k t) c h v = beside-accepts says (keywords_of r) tag name (field_term r (types.through k t)) v _ (at-place (field_place r) (types.through k t) h.0 v)
  content-accepts r tag name (types.param i) c h v = beside-accepts says (keywords_of r) tag name (field_term r (types.param i)) v _ (at-place (field_place r) (types.param i) h.0 v)
  content-accepts r tag name (types.leaf l) c h v = absurd c
  content-accepts r tag name types.any_value c h v = absurd c
  content-accepts r tag name types.free_object c h v = absurd c
  content-accepts r tag name types.unit c h v = absurd c
  content-accepts r tag name (types.tuple ts) c h v = absurd c
  content-accepts r tag name (types.items k t) c h v = absurd c
  content-accepts r tag name (types.set k t) c h v = absurd c
  content-accepts r tag name (types.map_of k s t) c h v = absurd c
  content-accepts r tag name (types.option t) c h v = absurd c

  internal-accepts : (r : Annotations) (tag name : List ℕ) (form : FormOf) → IsPlainForm ss (form_over args form) → CanBeTagged ss (Internal tag) (form_over args form) → (v : Json) →
      tree_accepts says (internal_term r tag name form) v ≡ internal_shape instance tag name (form_over args form) v
  internal-accepts r tag name (named_fields b ms) h c v = tagged-accepts b.denies b.flattened b.map h.1 r tag name ms h.0 v
  internal-accepts r tag name (unnamed_fields (t ∷ [])) h c v = content-accepts r tag name t c h v
  internal-accepts r tag name (unnamed_fields []) h c v = absurd c
  internal-accepts r tag name (unnamed_fields (t ∷ u ∷ us)) h c v = absurd c
  internal-accepts r tag name no_fields h c v = absurd h

  -- ---- variants with fields, in each representation

  told-accepts : (r : Annotations) (tagging : Tagging) (name : List ℕ) (form : FormOf) → IsPlainForm ss (form_over args form) → CanBeTagged ss tagging (form_over args form) → (v : Json) →
      tree_accepts says (told_term r tagging name form) v ≡ told_shape instance tagging name (form_over args form) v
  told-accepts r External name form h c v =
      requiring-accepts says (keywords_of r) name (form_term r form) v ∙ (λ i. has_member name (λ w. at-form r form h w i) v)
  told-accepts r (Internal tag) name form h c v = internal-accepts r tag name form h c v
  told-accepts r (Adjacent tag content) name form h c v =
      adjacent-accepts says (keywords_of r) tag content name (form_term r form) v
      ∙ (λ i. is_map v (λ es. there (look tag es) (is_the name) && there (look content es) (λ w. at-form r form h w i)))
  told-accepts r Untagged name form h c v = at-form r form h v

  variant-accepts : (r : Annotations) (tagging : Tagging) (name : List ℕ) (form : FormOf) → IsPlainVariant ss tagging (form_over args form) → (v : Json) →
      tree_accepts says (variant_form r tagging name form) v ≡ fields_shape instance tagging name (form_over args form) v
  variant-accepts r tagging name no_fields h v = unit-accepts r tagging name v
  variant-accepts r External name (named_fields b ms) h v = told-accepts r External name (named_fields b ms) h tt v
  variant-accepts r (Internal tag) name (named_fields b ms) h v = told-accepts r (Internal tag) name (named_fields b ms) h tt v
  variant-accepts r (Adjacent tag content) name (named_fields b ms) h v = told-accepts r (Adjacent tag content) name (named_fields b ms) h tt v
  variant-accepts r Untagged name (named_fields b ms) h v = told-accepts r Untagged name (named_fields b ms) h tt v
  variant-accepts r tagging name (unnamed_fields ts) h v = told-accepts r tagging name (unnamed_fields ts) h.0 h.1 v

  variants-accept : (tagging : Tagging) (xs : List VariantOf) → ArePlainVariants ss tagging (map_over (variant_over args) xs) → (v : Json) →
      some_accepts says (schemas_of (map_over (variant_term tagging) xs)) v ≡ list_any (variant_shape instance tagging v) (map_over (variant_over args) xs)
  variants-accept tagging [] h v = refl
  variants-accept tagging (x ∷ xs) h v = λ i. variant-accepts x.annotations tagging x.name x.form h.0 v i || variants-accept tagging xs h.1 v i

  body-accepts : (r : Annotations) (body : BodyOf) → IsPlainBody ss (body_over args body) → (v : Json) → tree_accepts says (body_term r body) v ≡ body_shape instance (body_over args body) v
  body-accepts r (fields form) h v = at-form r form h v
  body-accepts r (units tagging ns) h v = units-accept r tagging ns h v
  body-accepts r (numbers tagging ns) h v = numbers-term-accepts r tagging ns h v
  body-accepts r (variants tagging xs) h v = variants-accept tagging xs h.1 v

-- ---- bodies without arguments

module _ (none : SubstitutedNone) where
  member-stays : (m : MemberOf) → member_over no_types m ≡ m
  member-stays m = ap (λ t. record { name = m.name; required = m.required; annotations = m.annotations; of = t }) (none m.of)

  members-stay : (ms : List MemberOf) → map_over (member_over no_types) ms ≡ ms
  members-stay [] = refl
  members-stay (m ∷ ms) = λ i. member-stays m i ∷ members-stay ms i

  types-stay : (ts : List Open) → map_over (substituted no_types) ts ≡ ts
  types-stay [] = refl
  types-stay (t ∷ ts) = λ i. none t i ∷ types-stay ts i

  all-flattened-stay : (fs : List FlattenedOf) → map_over (flattened_over no_types) fs ≡ fs
  all-flattened-stay [] = refl
  all-flattened-stay (f ∷ fs) = λ i. record f { of = none f.of i } ∷ all-flattened-stay fs i

  map-stays : (x : Option FlattenedMapOf) → option_map (flattened_map_over no_types) x ≡ x
  map-stays None = refl
  map-stays (Some m) = λ i. Some (record m { key = none m.key i; value = none m.value i })

  beside-stays : (b : BesideOf) → beside_over no_types b ≡ b
  beside-stays b = λ i. record { denies = b.denies; flattened = all-flattened-stay b.flattened i; map = map-stays b.map i }

  form-stays : (form : FormOf) → form_over no_types form ≡ form
  form-stays (named_fields b ms) = λ i. named_fields (beside-stays b i) (members-stay ms i)
  form-stays (unnamed_fields ts) = ap unnamed_fields (types-stay ts)
  form-stays no_fields = refl

  variants-stay : (xs : List VariantOf) → map_over (variant_over no_types) xs ≡ xs
  variants-stay [] = refl
  variants-stay (x ∷ xs) = λ i. record { name = x.name; annotations = x.annotations; form = form-stays x.form i } ∷ variants-stay xs i

  body-stays : (body : BodyOf) → body_over no_types body ≡ body
  body-stays (fields form) = ap fields (form-stays form)
  body-stays (units tagging ns) = refl
  body-stays (numbers tagging ns) = refl
  body-stays (variants tagging xs) = ap (variants tagging) (variants-stay xs)

-- ---- declarations and instances

-- The term of a plain declaration accepts what has its shape.
pub terms-accept : SameIsEqual → SubstitutedNone → TermsAccept
terms-accept equal stays ss instance maps s h v =
    body-accepts equal ss instance maps no_types (leaf_shape instance) (λ d ts inline keywords w. ap (λ t. type_shape instance t w) (sym (stays (types.named d ts)))) (λ i p w. absurd p) s.annotations s.body
    (subst (IsPlainBody ss) (sym (body-stays stays s.body)) h) v
    ∙ ap (λ b. body_shape instance b v) (body-stays stays s.body)

-- The term of an instance accepts what has the shape of its body with the arguments.
pub instance-terms-accept : SameIsEqual → SubstitutedNone → InstanceTermsAccept
instance-terms-accept equal stays ss instance maps args s h v =
    bind-accepts (with_arguments args) (leaf_shape instance) (term s) v
    ∙ body-accepts equal ss instance maps args (λ x w. tree_accepts (leaf_shape instance) (with_arguments args x) w) (λ d ts inline keywords w. refl)
    (λ i p w. closed-accepts stays ss instance (inside true) (argument_at args i) p w) s.annotations s.body h v

pub places-accept : SubstitutedNone → PlacesAccept
places-accept stays ss instance = closed-accepts stays ss instance

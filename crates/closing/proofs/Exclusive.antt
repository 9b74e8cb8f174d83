-- At most one item of an enum's component accepts a value that tells one variant.
use Rattle.std.proofs.Common.{ℕ, ℤ, ◌⊎◌, List, [], ◌∷◌, Bool, true, false, ◌||◌, Some, IsTrue, bytes_eq, map as map_over, ◌≡◌, refl, sym, subst, ◌∙◌, inl, inr}
use Rattle.std.proofs.lemmas.Option.{same_Some}
use Rattle.std.proofs.lemmas.Slice.Eq.{bytes_eq-Decides}
use Rattle.std.proofs.lemmas.Bool.Decides.{Decides-int_eq}
use Rattle.acceptance.specs.Json.{Json, list}
use Rattle.texts.specs.Names.{is_in, IsDistinct}
use Rattle.acceptance.specs.Acceptance.{component_schema, component_accepts, Accepts}
use Rattle.std.specs.List.{list_any}
use Rattle.std.specs.Ordering.{int_eq}
use Rattle.schema_trees.specs.Annotations.{no_annotations}
use Rattle.schema_trees.specs.declared.annotations.AnnotationKeywords.{AnnotationKeywords}
use Rattle.schema_trees.specs.declared.tree.RefLeaf.{RefLeaf}
use Rattle.schema_trees.specs.Schema.{SchemaOf, SchemasOf, schemas_of, one_of, bind, bind_schemas}
use Rattle.schema_core.specs.declared.alternatives.Alternatives.{Alternatives}
use Rattle.schema_core.specs.declared.alternatives.Alternatives.TheVariants.{OneOf, AnyOf}
use Rattle.schema_core.specs.Form.{form_by, schema_forms}
use Rattle.schema_core.specs.Document.{Entry, document_by}
use Rattle.schema_core.specs.Meaning.{IsProper, AreProper, tree_accepts, FormsAccept, DocumentsHold, under, OneOfHolds}
use Rattle.component.specs.Leaves.{LeafOf}
use Rattle.open_types.specs.Open.{Open, Opens}
use Rattle.open_types.specs.Instances.{arguments_of, declared_place}
use Rattle.shapes.specs.declared.annotations.Annotations.{Annotations}
use Rattle.shapes.specs.declared.tagging.Tagging.{Tagging}
use Rattle.shapes.specs.declared.tagging.Tagging.TheVariants.{External, Internal, Adjacent, Untagged}
use Rattle.shapes.specs.Declarations.{VariantOf, variant_names, telling, BodyOf, fields, units, numbers, variants, AreDistinct, IsApartBody, DeclarationOf, AreApartBodies}
use Rattle.shapes.specs.Shape.{is_the, is_that, has_member}
use Rattle.shapes.specs.Instances.{declared_by, body_over, body_at}
use Rattle.shapes.specs.InstanceNames.{instance_name}
use Rattle.shapes.specs.Told.{tells, HasOneTag, HasOneNumber}
use Rattle.terms.specs.Telling.{SchemasTell, TagsTell, NumbersTell, TellsOne, HasOneName}
use Rattle.terms.specs.Terms.{keywords_of, body_term, variant_term, tag_alone, number_alone}
use Rattle.terms.specs.InstanceTerms.{with_arguments}
use Rattle.closing.specs.Links.{IsComponent}
use Rattle.closing.specs.Closed.{most_inlined, put, closed, instance_schema}
use Rattle.closing.specs.Described.{AreComponents}
use Rattle.closing.specs.Excluding.{items_of, alternatives, IsAcceptedByOne, AtMostOneAccepts, TellsOneOf}
use Rattle.schema_core.specs.proved.Bound.{bind-accepts}
use Rattle.closing.proofs.InstanceDescribed.{apart-at, closed-proper, schema_at}

either-false : (a b : Bool) → (a || b) ≡ false → (a ≡ false) × (b ≡ false)
either-false false b e = (refl, e)
either-false true b e = cc

-- Items of which each that accepts says something, and no two say it of one value: at most one accepts, at whatever depths.
module _ (forms_accept : FormsAccept) (by : Alternatives) (doc : Json) (g : LeafOf → SchemaOf LeafOf) (f : LeafOf → SchemaOf RefLeaf) {A : Type 0} (item_term : A → SchemaOf LeafOf) (says : A → Json → Type 0)
    (tell : (leaf_accepts : LeafOf → Json → Bool) (x : A) (v : Json) → IsTrue (tree_accepts leaf_accepts (item_term x) v) → says x v) (v : Json) where
  abbrev said_by : ℕ → RefLeaf → Json → Bool
  said_by depth r w = component_accepts doc depth r.name w

  abbrev pub items_from : List A → SchemasOf RefLeaf
  items_from xs = bind_schemas f (bind_schemas g (schemas_of (map_over item_term xs)))

  abbrev pub IsSaid : List A → Type 0
  IsSaid [] = ⊥
  IsSaid (x ∷ xs) = says x v ⊎ IsSaid xs

  abbrev pub Differ : List A → Type 0
  Differ [] = Unit {0}
  Differ (x ∷ xs) = (says x v → IsSaid xs → ⊥) × Differ xs

  item-tells : (x : A) → IsProper (bind f (bind g (item_term x))) → Accepts doc (form_by by (bind f (bind g (item_term x)))) v → says x v
  item-tells x p a =
      tell (λ l. tree_accepts (λ m. tree_accepts (said_by a.0) (f m)) (g l)) x v
      (subst IsTrue
      (forms_accept by (component_accepts doc a.0) (bind f (bind g (item_term x))) p v
      ∙ bind-accepts f (said_by a.0) (bind g (item_term x)) v
      ∙ bind-accepts g (λ m. tree_accepts (said_by a.0) (f m)) (item_term x) v) a.1)

  one-tells : (xs : List A) → AreProper (items_from xs) → IsAcceptedByOne doc (schema_forms by (items_from xs)) v → IsSaid xs
  one-tells [] p h = h
  one-tells (x ∷ xs) p (inl a) = inl (item-tells x p.0 a)
  one-tells (x ∷ xs) p (inr h) = inr (one-tells xs p.1 h)

  pub exclude : (xs : List A) → Differ xs → AreProper (items_from xs) → AtMostOneAccepts doc (schema_forms by (items_from xs)) v
  exclude [] d p = tt
  exclude (x ∷ xs) d p = ((λ a h. d.0 (item-tells x p.0 a) (one-tells xs p.1 h)), exclude xs d.1 p.1)

-- names and numbers that differ
module _ (tell : SchemasTell) (one_name : HasOneName) (tagging : Tagging) (v : Json) (t : TellsOne tagging v) where
  abbrev told : VariantOf → Json → Type 0
  told x w = IsTrue (tells tagging x.name w)

  none-said : (forms : FormsAccept) (by : Alternatives) (doc : Json) (g : LeafOf → SchemaOf LeafOf) (f : LeafOf → SchemaOf RefLeaf) (name : List ℕ) → IsTrue (tells tagging name v) → (xs : List VariantOf) → is_in name (variant_names xs) ≡ false →
      IsSaid forms by doc g f (variant_term tagging) told (λ says x w h. tell says tagging x w h) v xs → ⊥
  none-said forms by doc g f name h [] d s = s
  none-said forms by doc g f name h (x ∷ xs) d (inl s) =
      let same : name ≡ x.name = one_name tagging name x.name v t h s in
      let yes : bytes_eq name x.name ≡ true = (bytes_eq-Decides name x.name).1 same in
      let no : true ≡ false = sym yes ∙ (either-false (bytes_eq name x.name) (is_in name (variant_names xs)) d).0 in
      cc
  none-said forms by doc g f name h (x ∷ xs) d (inr s) = none-said forms by doc g f name h xs (either-false (bytes_eq name x.name) (is_in name (variant_names xs)) d).1 s

  variants-differ : (forms : FormsAccept) (by : Alternatives) (doc : Json) (g : LeafOf → SchemaOf LeafOf) (f : LeafOf → SchemaOf RefLeaf) (xs : List VariantOf) → IsDistinct (variant_names xs) →
      Differ forms by doc g f (variant_term tagging) told (λ says x w h. tell says tagging x w h) v xs
  variants-differ forms by doc g f [] d = tt
  variants-differ forms by doc g f (x ∷ xs) d = ((λ h s. none-said forms by doc g f x.name h xs d.0 s), variants-differ forms by doc g f xs d.1)

module _ (forms : FormsAccept) (by : Alternatives) (doc : Json) (g : LeafOf → SchemaOf LeafOf) (f : LeafOf → SchemaOf RefLeaf) (tag : List ℕ) (v : Json) where
  abbrev HasTag : List ℕ → Json → Type 0
  HasTag name w = IsTrue (has_member tag (is_the name) w)

  no-tag : (tell : TagsTell) (one : HasOneTag) (name : List ℕ) → HasTag name v → (ns : List (List ℕ)) → is_in name ns ≡ false → IsSaid forms by doc g f (tag_alone no_annotations tag) HasTag (λ says n w h. tell says tag n w h) v ns → ⊥
  no-tag tell one name h [] d g = g
  no-tag tell one name h (n ∷ ns) d (inl g) =
      let yes : bytes_eq name n ≡ true = (bytes_eq-Decides name n).1 (one tag name n v h g) in
      let no : true ≡ false = sym yes ∙ (either-false (bytes_eq name n) (is_in name ns) d).0 in
      cc
  no-tag tell one name h (n ∷ ns) d (inr g) = no-tag tell one name h ns (either-false (bytes_eq name n) (is_in name ns) d).1 g

  tags-differ : (tell : TagsTell) (one : HasOneTag) (ns : List (List ℕ)) → IsDistinct ns → Differ forms by doc g f (tag_alone no_annotations tag) HasTag (λ says n w h. tell says tag n w h) v ns
  tags-differ tell one [] d = tt
  tags-differ tell one (n ∷ ns) d = ((λ h g. no-tag tell one n h ns d.0 g), tags-differ tell one ns d.1)

  abbrev HasNumber : ℤ → Json → Type 0
  HasNumber n w = IsTrue (has_member tag (is_that n) w)

  no-number : (tell : NumbersTell) (one : HasOneNumber) (m : ℤ) → HasNumber m v → (ns : List ℤ) → list_any (int_eq m) ns ≡ false → IsSaid forms by doc g f (number_alone tag) HasNumber (λ says n w h. tell says tag n w h) v ns → ⊥
  no-number tell one m h [] d g = g
  no-number tell one m h (n ∷ ns) d (inl g) =
      let same : m ≡ n = one tag m n v h g in
      let yes : int_eq m n ≡ true = (Decides-int_eq m n).1 same in
      let no : true ≡ false = sym yes ∙ (either-false (int_eq m n) (list_any (int_eq m) ns) d).0 in
      cc
  no-number tell one m h (n ∷ ns) d (inr g) = no-number tell one m h ns (either-false (int_eq m n) (list_any (int_eq m) ns) d).1 g

  numbers-differ : (tell : NumbersTell) (one : HasOneNumber) (ns : List ℤ) → AreDistinct ns → Differ forms by doc g f (number_alone tag) HasNumber (λ says n w h. tell says tag n w h) v ns
  numbers-differ tell one [] d = tt
  numbers-differ tell one (n ∷ ns) d = ((λ h g. no-number tell one n h ns d.0 g), numbers-differ tell one ns d.1)

told-names : (tagging : Tagging) (v : Json) → TellsOne tagging v → (ns : List (List ℕ)) → IsDistinct (telling tagging ns) → IsDistinct ns
told-names External v t ns d = d
told-names (Internal tag) v t ns d = d
told-names (Adjacent tag content) v t ns d = d
told-names Untagged v t ns d = absurd t

module _ (forms_accept : FormsAccept) (one_of_holds : OneOfHolds) (tell : SchemasTell) (one_name : HasOneName) (tags : TagsTell) (one_tag : HasOneTag) (numbered : NumbersTell) (one_number : HasOneNumber) (by word : Alternatives) (doc : Json) (g : LeafOf → SchemaOf LeafOf) (f : LeafOf → SchemaOf RefLeaf) (v : Json) where
  at-items : (keywords : AnnotationKeywords) (ss : SchemasOf RefLeaf) → AtMostOneAccepts doc (schema_forms by ss) v → AtMostOneAccepts doc (alternatives word (form_by by (one_of keywords ss))) v
  at-items keywords ss h = subst (λ o. AtMostOneAccepts doc (items_of o) v) (sym (one_of_holds by word keywords ss)) (either by word)
    where
      -- under the other keyword there are none
      either : (own asked : Alternatives) → AtMostOneAccepts doc (items_of (under own asked (list (schema_forms by ss)))) v
      either OneOf OneOf = h
      either AnyOf AnyOf = h
      either OneOf AnyOf = tt
      either AnyOf OneOf = tt

  body-exclude : (r : Annotations) (body : BodyOf) → IsApartBody body → IsProper (bind f (bind g (body_term r body))) → TellsOneOf body v → AtMostOneAccepts doc (alternatives word (form_by by (bind f (bind g (body_term r body))))) v
  body-exclude r (variants tagging xs) apart p t =
      at-items (keywords_of r) (bind_schemas f (bind_schemas g (schemas_of (map_over (variant_term tagging) xs))))
      (exclude forms_accept by doc g f (variant_term tagging) (λ x w. IsTrue (tells tagging x.name w)) (λ says x w h. tell says tagging x w h) v xs
      (variants-differ tell one_name tagging v t forms_accept by doc g f xs (told-names tagging v t (variant_names xs) apart.0)) p)
  body-exclude r (units (Internal tag) ns) apart p t =
      at-items (keywords_of r) (bind_schemas f (bind_schemas g (schemas_of (map_over (tag_alone no_annotations tag) ns))))
      (exclude forms_accept by doc g f (tag_alone no_annotations tag) (λ n w. IsTrue (has_member tag (is_the n) w)) (λ says n w h. tags says tag n w h) v ns (tags-differ forms_accept by doc g f tag v tags one_tag ns apart) p)
  body-exclude r (units (Adjacent tag content) ns) apart p t =
      at-items (keywords_of r) (bind_schemas f (bind_schemas g (schemas_of (map_over (tag_alone no_annotations tag) ns))))
      (exclude forms_accept by doc g f (tag_alone no_annotations tag) (λ n w. IsTrue (has_member tag (is_the n) w)) (λ says n w h. tags says tag n w h) v ns (tags-differ forms_accept by doc g f tag v tags one_tag ns apart) p)
  body-exclude r (numbers (Internal tag) ns) apart p t =
      at-items (keywords_of r) (bind_schemas f (bind_schemas g (schemas_of (map_over (number_alone tag) ns))))
      (exclude forms_accept by doc g f (number_alone tag) (λ n w. IsTrue (has_member tag (is_that n) w)) (λ says n w h. numbered says tag n w h) v ns (numbers-differ forms_accept by doc g f tag v numbered one_number ns apart) p)
  body-exclude r (numbers (Adjacent tag content) ns) apart p t =
      at-items (keywords_of r) (bind_schemas f (bind_schemas g (schemas_of (map_over (number_alone tag) ns))))
      (exclude forms_accept by doc g f (number_alone tag) (λ n w. IsTrue (has_member tag (is_that n) w)) (λ says n w h. numbered says tag n w h) v ns (numbers-differ forms_accept by doc g f tag v numbered one_number ns apart) p)
  body-exclude r (fields form) apart p t = absurd t
  body-exclude r (units External ns) apart p t = absurd t
  body-exclude r (units Untagged ns) apart p t = absurd t
  body-exclude r (numbers External ns) apart p t = absurd t
  body-exclude r (numbers Untagged ns) apart p t = absurd t

-- with arguments put in, the same values tell a variant
told-over : (args : Opens) (body : BodyOf) (v : Json) → TellsOneOf (body_over args body) v → TellsOneOf body v
told-over args (fields form) v t = t
told-over args (units tagging ns) v t = t
told-over args (numbers tagging ns) v t = t
told-over args (variants tagging xs) v t = t

-- at most one alternative of a component accepts a value that tells one variant, under either keyword
pub components-exclude : FormsAccept → DocumentsHold → OneOfHolds → SchemasTell → HasOneName → TagsTell → HasOneTag → NumbersTell → HasOneNumber →
    (keyword : Alternatives) (ss : List DeclarationOf) (cs : List Entry) (all : Bool) → AreApartBodies ss → AreComponents ss all cs → (t : Open) → IsComponent ss all t →
    (s v : Json) → component_schema (document_by keyword cs) (instance_name ss t) ≡ Some s → TellsOneOf (body_at ss t) v → (word : Alternatives) → AtMostOneAccepts (document_by keyword cs) (alternatives word s) v
components-exclude forms_accept documents_hold one_of_holds tell one_name tags one_tag numbered one_number keyword ss cs all apart made t c s v e told word =
    subst (λ u. AtMostOneAccepts (document_by keyword cs) (alternatives word u) v) same here
  where
    same : form_by keyword (instance_schema ss t) ≡ s
    same = same_Some (form_by keyword (instance_schema ss t)) s (sym (schema_at keyword forms_accept documents_hold ss all cs apart made t c) ∙ e)

    here : AtMostOneAccepts (document_by keyword cs) (alternatives word (form_by keyword (instance_schema ss t))) v
    here =
        body-exclude forms_accept one_of_holds tell one_name tags one_tag numbered one_number keyword word (document_by keyword cs) (with_arguments (arguments_of t)) (put ss (closed ss 31)) v
        (declared_by ss t).annotations (declared_by ss t).body (apart-at ss (declared_place t) apart) (closed-proper ss apart most_inlined t) (told-over (arguments_of t) (declared_by ss t).body v told)

-- What the schemas of places and of fields accept: a place what has the shape of its type, fields what has the shape of their form.
use Rattle.std.proofs.Common.{ℕ, suc, drop, length, None, Option, option_map, pos, int_le, List, [], ◌∷◌, Bool, true, false, not, ◌&&◌, ◌||◌, cond, Some, IsTrue, ◌≡◌, ◌≢◌, refl, ap, sym, subst, ◌∙◌, map as map_over}
use Rattle.std.specs.List.{list_all}
use Rattle.std.proofs.Math.Dec.{leb-zero, leb-suc-zero, leb-suc-suc}
use Rattle.std.proofs.lemmas.Bool.{and_parts}
use Rattle.std.proofs.Math.Bool.{or-false}
use Rattle.acceptance.specs.Acceptance.{others_pass, names_pass}
use Rattle.acceptance.specs.Json.{Json, Members, null, boolean, number, text, list, map, entries, names, look, distinct, on_map, on_list, if_there}
use Rattle.texts.specs.Names.{is_in}
use Rattle.schema_trees.specs.declared.tree.SchemaTypeInner.TheVariants as word
use Rattle.schema_trees.specs.declared.tree.TypeWord.TheVariants.{Any, One}
use Rattle.schema_trees.specs.declared.annotations.AnnotationKeywords.{AnnotationKeywords}
use Rattle.schema_trees.specs.Annotations.{no_annotations, described}
use Rattle.schema_trees.specs.Schema.{SchemaOf, SchemasOf, no_schemas, schema_count, property_names}
use Rattle.schema_trees.specs.Schema as tree
use Rattle.schema_core.specs.Form.{array_word}
use Rattle.schema_core.specs.Meaning.{each_in_order, word_accepts, minimum_accepts, required_accepts, tree_accepts, properties_accept, all_accept, where_given}
use Rattle.leaves.specs.declared.leaf.LeafKind.{LeafKind}
use Rattle.leaves.specs.declared.leaf.LeafKind.TheVariants as kinds
use Rattle.leaves.specs.Leaves.{kind_of}
use Rattle.open_types.specs.Open.{Open, Opens, leaf, any_value, free_object, unit, tuple, items, set, map_of, option, through, param, named, no_types, more_types, argument_at, substituted, all_substituted}
use Rattle.open_types.specs.Same.{same_type}
use Rattle.open_types.specs.Laws.{SameIsEqual, SubstitutedNone}
use Rattle.component.specs.Leaves.{LeafOf}
use Rattle.component.specs.Leaves as named_leaf
use Rattle.schema_trees.specs.Objects.{only_word}
use Rattle.component.specs.Places.{word_of, minimum_of, type_word, one_of_null, or_null, beside, in_place, PlaceOf, inside, with_null, annotations_at, leaf_at, declared, argument, place, inline_places}
use Rattle.shapes.specs.declared.annotations.Annotations.{Annotations}
use Rattle.shapes.specs.Declarations.{MemberOf, FlattenedOf, FlattenedMapOf, Others, any, none, each, others_beside, FormOf, named_fields, unnamed_fields, no_fields, DeclarationOf, member_types, member_names, unannotated}
use Rattle.shapes.specs.Instances.{member_over, flattened_over, flattened_map_over, form_over}
use Rattle.shapes.specs.Shape.{is_null, is_text, is_boolean, is_number, is_list, is_map, reads, type_shape, items_fit, member_fits, others_fit, flattened_fits, elements_fit, unnamed_shape, form_shape}
use Rattle.shapes.specs.Plain.{IsPlainType, ArePlainTypes, AreAllPlain, CanBeFlattened, AreFlattened, IsPlainBeside, IsPlainForm}
use Rattle.terms.specs.Terms.{field_place, properties_of, required_names, value_place, values_term, others_part, own_term, own_beside, flattened_terms, named_term, are_all, alike_term, field_terms, mixed_term, unnamed_term, form_term, keywords_of}
use Rattle.terms.specs.Meaning.{leaf_shape, HoldMaps}

-- ---- conditions

pub and-true : (a : Bool) → (a && true) ≡ a
and-true true = refl
and-true false = refl

and-swap : (a b : Bool) → (a && b) ≡ (b && a)
and-swap true true = refl
and-swap true false = refl
and-swap false true = refl
and-swap false false = refl

pub and-assoc : (a b c : Bool) → ((a && b) && c) ≡ (a && (b && c))
and-assoc true b c = refl
and-assoc false b c = refl

and-both : (a b : Bool) → IsTrue a → IsTrue b → IsTrue (a && b)
and-both true b f g = g
and-both false b f g = f

-- two pairs of conditions, taken the other way
and-cross : (a b c d : Bool) → ((a && b) && (c && d)) ≡ ((c && a) && (b && d))
and-cross true b true d = refl
and-cross true true false d = refl
and-cross true false false d = refl
and-cross false b true d = refl
and-cross false b false d = refl

-- two conditions, and a third before them
and-third : (a b c d : Bool) → (a && (b && (c && d))) ≡ (c && (a && (b && d)))
and-third true true c d = refl
and-third true false true d = refl
and-third true false false d = refl
and-third false b true d = refl
and-third false b false d = refl

-- a condition in the middle, taken to the end
pub and-last : (a b c : Bool) → (a && (b && c)) ≡ ((a && c) && b)
and-last true b c = and-swap b c
and-last false b c = refl

or-swap : (a b : Bool) → (a || (b || false)) ≡ (b || a)
or-swap true true = refl
or-swap true false = refl
or-swap false true = refl
or-swap false false = refl

or-twice : (n a b : Bool) → (a || b) ≡ ((n && a) || (a || b))
or-twice true true b = refl
or-twice true false b = refl
or-twice false a b = refl

or-true : (n a : Bool) → true ≡ ((n && a) || true)
or-true true true = refl
or-true true false = refl
or-true false a = refl

-- ---- leaves

-- each kind: what its word and its minimum accept, is what serde reads, or null where it may be
text-accepts : (n : Bool) (v : Json) → (word_accepts (type_word n word.String) v && (on_map v (λ es. true) && (required_accepts [] v && true))) ≡ ((n && is_null v) || is_text v)
text-accepts true null = refl
text-accepts false null = refl
text-accepts _ _ = refl

boolean-accepts : (n : Bool) (v : Json) → (word_accepts (type_word n word.Boolean) v && (on_map v (λ es. true) && (required_accepts [] v && true))) ≡ ((n && is_null v) || is_boolean v)
boolean-accepts true null = refl
boolean-accepts false null = refl
boolean-accepts _ _ = refl

signed-accepts : (n : Bool) (v : Json) → (word_accepts (type_word n word.Integer) v && (on_map v (λ es. true) && (required_accepts [] v && true))) ≡ ((n && is_null v) || is_number v (λ m. true))
signed-accepts true null = refl
signed-accepts false null = refl
signed-accepts _ _ = refl

unsigned-accepts : (n : Bool) (v : Json) →
    (word_accepts (type_word n word.Integer) v && (on_map v (λ es. true) && (required_accepts [] v && minimum_accepts (Some (pos 0)) v))) ≡ ((n && is_null v) || is_number v (λ m. int_le (pos 0) m))
unsigned-accepts true null = refl
unsigned-accepts false null = refl
unsigned-accepts _ _ = refl

kind-accepts : (n : Bool) (x : LeafKind) (v : Json) → x ≢ kinds.Float →
    (word_accepts (type_word n (word_of x)) v && (on_map v (λ es. true) && (required_accepts [] v && minimum_accepts (minimum_of x) v))) ≡ ((n && is_null v) || reads x v)
kind-accepts n kinds.Text v h = text-accepts n v
kind-accepts n kinds.Boolean v h = boolean-accepts n v
kind-accepts n kinds.Signed v h = signed-accepts n v
kind-accepts n kinds.Unsigned v h = unsigned-accepts n v
kind-accepts n kinds.Float v h = absurd (h refl)

object-accepts : (n : Bool) (v : Json) → (word_accepts (type_word n word.Object) v && (on_map v (λ es. true) && (required_accepts [] v && true))) ≡ ((n && is_null v) || is_map v (λ es. true))
object-accepts true null = refl
object-accepts false null = refl
object-accepts _ _ = refl

-- ---- null and descriptions
module _ {X : Type 0} (says : X → Json → Bool) where
  any-accepts : (keywords : AnnotationKeywords) (v : Json) → tree_accepts says (only_word Any keywords) v ≡ true
  any-accepts keywords null = refl
  any-accepts keywords _ = refl

  pub null-accepts : (keywords : AnnotationKeywords) (v : Json) → tree_accepts says (only_word (One word.Null) keywords) v ≡ is_null v
  null-accepts keywords null = refl
  null-accepts keywords _ = refl

  or-null-accepts : (keywords : AnnotationKeywords) (s : SchemaOf X) (v : Json) → tree_accepts says (one_of_null keywords s) v ≡ (is_null v || tree_accepts says s v)
  or-null-accepts keywords s v = (λ i. tree_accepts says s v || (null-accepts no_annotations v i || false)) ∙ or-swap (tree_accepts says s v) (is_null v)

  -- where null may be
  nullable-accepts : (n : Bool) (s : SchemaOf X) (v : Json) → tree_accepts says (or_null n s) v ≡ ((n && is_null v) || tree_accepts says s v)
  nullable-accepts false s v = refl
  nullable-accepts true s v = or-null-accepts no_annotations s v

  -- a description says nothing
  beside-accepts : (description : Option (List ℕ)) (s : SchemaOf X) (v : Json) → tree_accepts says (beside description s) v ≡ tree_accepts says s v
  beside-accepts None s v = refl
  beside-accepts (Some x) s v = (λ i. tree_accepts says s v && (any-accepts (described (Some x)) v i && true)) ∙ and-true (tree_accepts says s v)

  in_place-accepts : (n : Bool) (description : Option (List ℕ)) (s : SchemaOf X) (v : Json) → tree_accepts says (in_place n description s) v ≡ ((n && is_null v) || tree_accepts says s v)
  in_place-accepts false description s v = beside-accepts description s v
  in_place-accepts true description s v = or-null-accepts (described description) s v

-- ---- lists and maps

-- two tests of a list are one of both
both-lists : (v : Json) (p q : List Json → Bool) → (on_list v p && on_list v q) ≡ on_list v (λ vs. p vs && q vs)
both-lists null p q = refl
both-lists _ p q = refl

list-accepts : (n : Bool) (v : Json) (p : List Json → Bool) → (word_accepts (array_word n) v && on_list v p) ≡ ((n && is_null v) || is_list v p)
list-accepts true null p = refl
list-accepts false null p = refl
list-accepts _ _ p = refl

-- elements that all pass
items-accept : (n : Bool) (v : Json) (p : List Json → Bool) → (word_accepts (array_word n) v && (on_list v (λ vs. true) && on_list v p)) ≡ ((n && is_null v) || is_list v p)
items-accept n v p = (λ i. word_accepts (array_word n) v && both-lists v (λ vs. true) p i) ∙ list-accepts n v p

-- elements that all pass, no two of them equal
distinct-accept : (n : Bool) (v : Json) (p : List Json → Bool) →
    (word_accepts (array_word n) v && (on_list v distinct && (on_list v (λ vs. true) && on_list v p))) ≡ ((n && is_null v) || is_list v (λ vs. p vs && distinct vs))
distinct-accept n v p =
    (λ i. word_accepts (array_word n) v && (on_list v distinct && both-lists v (λ vs. true) p i))
    ∙ (λ i. word_accepts (array_word n) v && both-lists v distinct p i)
    ∙ (λ i. word_accepts (array_word n) v && on_list v (λ vs. and-swap (distinct vs) (p vs) i))
    ∙ list-accepts n v (λ vs. p vs && distinct vs)

-- no more elements and no fewer, of which those in front pass and the others do
exactly-accept : (v : Json) (more fewer front rest : List Json → Bool) →
    (word_accepts (array_word false) v && (on_list v more && (on_list v fewer && (on_list v front && on_list v rest)))) ≡ is_list v (λ vs. more vs && (fewer vs && (front vs && rest vs)))
exactly-accept v more fewer front rest =
    (λ i. word_accepts (array_word false) v && (on_list v more && (on_list v fewer && both-lists v front rest i)))
    ∙ (λ i. word_accepts (array_word false) v && (on_list v more && both-lists v fewer (λ vs. front vs && rest vs) i))
    ∙ (λ i. word_accepts (array_word false) v && both-lists v more (λ vs. fewer vs && (front vs && rest vs)) i)
    ∙ list-accepts false v (λ vs. more vs && (fewer vs && (front vs && rest vs)))

-- a map whose values pass, and whose names
map-accepts : (n : Bool) (v : Json) (p q : List (List ℕ × Json) → Bool) →
    (word_accepts (type_word n word.Object) v && (on_map v (λ es. true) && (on_map v p && (on_map v q && (required_accepts [] v && true))))) ≡ ((n && is_null v) || is_map v (λ es. p es && q es))
map-accepts true (map ms) p q = ap (λ b. p (entries ms) && b) (and-true (q (entries ms)))
map-accepts false (map ms) p q = ap (λ b. p (entries ms) && b) (and-true (q (entries ms)))
map-accepts true null p q = refl
map-accepts false null p q = refl
map-accepts _ _ p q = refl

-- the names and the values of entries, tested apart or together
entries-pass : (p q : Json → Bool) (es : List (List ℕ × Json)) → (others_pass [] q es && names_pass p es) ≡ list_all (λ e. p (text e.0) && q e.1) es
entries-pass p q [] = refl
entries-pass p q (e ∷ es) = and-cross (q e.1) (others_pass [] q es) (p (text e.0)) (names_pass p es) ∙ ap (λ b. (p (text e.0) && q e.1) && b) (entries-pass p q es)

-- where other names are denied, each name is among these
pub others-denied : (ks : List (List ℕ)) (es : List (List ℕ × Json)) → others_pass ks (λ w. false) es ≡ list_all (λ e. is_in e.0 ks) es
others-denied ks [] = refl
others-denied ks (e ∷ es) = (λ i. or-false (is_in e.0 ks) i && others-denied ks es i)

pub property_names-are : (args : Opens) (ms : List MemberOf) → property_names (properties_of ms) ≡ member_names (map_over (member_over args) ms)
property_names-are args [] = refl
property_names-are args (m ∷ ms) = ap (λ ns. m.name ∷ ns) (property_names-are args ms)

-- ---- required names

needed : (a b p q : Bool) → ((a && p) && ((b && q) && true)) ≡ ((b && a) && (p && (q && true)))
needed true true p q = refl
needed true false true q = refl
needed true false false q = refl
needed false true p q = refl
needed false false p q = refl

not_needed : (a p q : Bool) → ((a && p) && (q && true)) ≡ (a && (p && (q && true)))
not_needed true p q = refl
not_needed false p q = refl

-- the name of one more member, which may be required, beside the names of the others
member-accepts : (required a p : Bool) (is : List ℕ → Bool) (k : List ℕ) (ks : List (List ℕ)) →
    ((a && p) && (list_all is (cond required (k ∷ ks) ks) && true)) ≡ ((not required || is k) && a) && (p && (list_all is ks && true))
member-accepts true a p is k ks = needed a (is k) p (list_all is ks)
member-accepts false a p is k ks = not_needed a p (list_all is ks)

-- ---- places

-- Leaves that accept what has the shape of their types, with arguments in the places of the parameters.
module _ (ss : List DeclarationOf) (instance : Open → Json → Bool) (args : Opens) (says : LeafOf → Json → Bool)
    (at_named : (d : ℕ) (ts : Opens) (inline : Bool) (keywords : AnnotationKeywords) (v : Json) → says (named_leaf.named (named d ts) inline keywords) v ≡ type_shape instance (substituted args (named d ts)) v)
    (at_param : (i : ℕ) → IsPlainType ss (argument_at args i) → (v : Json) → says (named_leaf.param i) v ≡ type_shape instance (argument_at args i) v) where
  abbrev has : Open → Json → Bool
  has t = type_shape instance (substituted args t)

  abbrev over : List Open → List Open
  over ts = map_over (substituted args) ts

  either : (n : Bool) (v : Json) (a b : Bool) → a ≡ b → ((n && is_null v) || a) ≡ ((n && is_null v) || b)
  either n v a b e = ap (λ c. (n && is_null v) || c) e

  leaf-accepts : (at : PlaceOf) (x : LeafOf) (v : Json) → tree_accepts says (leaf_at at x) v ≡ ((at.nullable && is_null v) || says x v)
  leaf-accepts at x v = by at.inline
    where
      by : (inline : Bool) → tree_accepts says (cond inline (in_place at.nullable at.description (tree.leaf x)) (or_null at.nullable (tree.leaf x))) v ≡ ((at.nullable && is_null v) || says x v)
      by true = in_place-accepts says at.nullable at.description (tree.leaf x) v
      by false = nullable-accepts says at.nullable (tree.leaf x) v

  declared-accepts : (at : PlaceOf) (d : ℕ) (ts : Opens) (v : Json) → tree_accepts says (declared at (named d ts)) v ≡ ((at.nullable && is_null v) || has (named d ts) v)
  declared-accepts at d ts v =
      let keywords : AnnotationKeywords = cond at.inline no_annotations (described at.description) in
      leaf-accepts at (named_leaf.named (named d ts) at.inline keywords) v ∙ either at.nullable v _ _ (at_named d ts at.inline keywords v)

  argument-accepts : (at : PlaceOf) (j : ℕ) → IsPlainType ss (argument_at args j) → (v : Json) → tree_accepts says (argument at j) v ≡ ((at.nullable && is_null v) || type_shape instance (argument_at args j) v)
  argument-accepts at j h v = leaf-accepts at (named_leaf.param j) v ∙ either at.nullable v _ _ (at_param j h v)

  -- The schema of a place accepts null where it may be, and what has the shape of the type with its arguments.
  mutual
    pub place-accepts : (at : PlaceOf) (t : Open) → IsPlainType ss (substituted args t) → (v : Json) →
        tree_accepts says (place at t) v ≡ ((at.nullable && is_null v) || has t v)
    place-accepts at (leaf x) h v = kind-accepts at.nullable (kind_of x) v h
    place-accepts at any_value h v = any-accepts says (annotations_at at) v ∙ or-true at.nullable (is_null v)
    place-accepts at free_object h v = object-accepts at.nullable v
    place-accepts at unit h v = absurd h
    place-accepts at (tuple ts) h v =
        (λ i. word_accepts (array_word at.nullable) v && both-lists v (each_in_order says (inline_places ts)) (λ vs. list_all (λ w. false) (drop (schema_count (inline_places ts)) vs)) i)
        ∙ (λ i. word_accepts (array_word at.nullable) v && on_list v (λ vs. places-accept ts h vs i))
        ∙ list-accepts at.nullable v (items_fit instance (all_substituted args ts))
    place-accepts at (items x t) h v =
        (λ i. word_accepts (array_word at.nullable) v && (on_list v (λ vs. true) && on_list v (list_all (λ w. place-accepts (inside at.inline) t h w i)))) ∙ items-accept at.nullable v (list_all (has t))
    place-accepts at (set x t) h v =
        (λ i. word_accepts (array_word at.nullable) v && (on_list v distinct && (on_list v (λ vs. true) && on_list v (list_all (λ w. place-accepts (inside at.inline) t h w i)))))
        ∙ distinct-accept at.nullable v (list_all (has t))
    place-accepts at (map_of x k t) h v =
        (λ i. word_accepts (type_word at.nullable word.Object) v && (on_map v (λ es. true) && (on_map v (others_pass [] (λ w. place-accepts (inside at.inline) t h.2 w i))
        && (on_map v (names_pass (λ w. place-accepts (inside true) k h.1 w i)) && (required_accepts [] v && true)))))
        ∙ map-accepts at.nullable v (others_pass [] (has t)) (names_pass (has k))
        ∙ (λ i. (at.nullable && is_null v) || is_map v (λ es. entries-pass (has k) (has t) es i))
    place-accepts at (option t) h v = place-accepts (with_null at) t h v ∙ or-twice at.nullable (is_null v) (has t v)
    place-accepts at (through x t) h v = place-accepts at t h v
    place-accepts at (param j) h v = argument-accepts at j h v
    place-accepts at (named d ts) h v = declared-accepts at d ts v

    -- the items of a tuple, and no element behind them
    places-accept : (ts : Opens) → ArePlainTypes ss (all_substituted args ts) → (vs : List Json) →
        (each_in_order says (inline_places ts) vs && list_all (λ w. false) (drop (schema_count (inline_places ts)) vs)) ≡ items_fit instance (all_substituted args ts) vs
    places-accept no_types h [] = refl
    places-accept no_types h (v ∷ vs) = refl
    places-accept (more_types t ts) h [] = refl
    places-accept (more_types t ts) h (v ∷ vs) =
        and-assoc (tree_accepts says (place (inside true) t) v) (each_in_order says (inline_places ts) vs) (list_all (λ w. false) (drop (schema_count (inline_places ts)) vs))
        ∙ (λ i. place-accepts (inside true) t h.0 v i && places-accept ts h.1 vs i)

  -- ---- named fields

  abbrev members_over : List MemberOf → List MemberOf
  members_over ms = map_over (member_over args) ms

  -- the properties of members and the names that are required ask what the members do
  pub members-accept : (ms : List MemberOf) → AreAllPlain ss (member_types (members_over ms)) → (es : List (List ℕ × Json)) →
      (properties_accept says (properties_of ms) es && (list_all (λ k. is_in k (names es)) (required_names ms) && true)) ≡ list_all (member_fits instance es) (members_over ms)
  members-accept [] h es = refl
  members-accept (m ∷ ms) h es =
      (λ i. (if_there (look m.name es) (λ v. place-accepts (field_place m.annotations) m.of h.0 v i) && properties_accept says (properties_of ms) es)
      && (list_all (λ k. is_in k (names es)) (required_names (m ∷ ms)) && true))
      ∙ member-accepts m.required (if_there (look m.name es) (has m.of)) (properties_accept says (properties_of ms) es) (λ k. is_in k (names es)) m.name (required_names ms)
      ∙ ap (λ b. member_fits instance es (member_over args m) && b) (members-accept ms h.1 es)

  -- what is said of a flattened map asks nothing of its values
  values-accept : (r : Annotations) (nullable : Bool) (t : Open) → IsPlainType ss (substituted args t) → (v : Json) →
      tree_accepts says (values_term r nullable t) v ≡ ((nullable && is_null v) || has t v)
  values-accept r n (leaf x) h v = place-accepts (value_place n r) (leaf x) h v
  values-accept r n any_value h v = place-accepts (value_place n r) any_value h v
  values-accept r n free_object h v = place-accepts (value_place n r) free_object h v
  values-accept r n unit h v = absurd h
  values-accept r n (tuple ts) h v = place-accepts (value_place n r) (tuple ts) h v
  values-accept r n (items x t) h v = place-accepts (value_place n r) (items x t) h v
  values-accept r n (set x t) h v = place-accepts (value_place n r) (set x t) h v
  values-accept r n (map_of x k t) h v = place-accepts (value_place n r) (map_of x k t) h v
  values-accept r n (option t) h v = values-accept r true t h v ∙ or-twice n (is_null v) (has t v)
  values-accept r n (through x t) h v = values-accept r n t h v
  values-accept r n (param i) h v = place-accepts (value_place n r) (param i) h v
  values-accept r false (named d ts) h v = place-accepts (value_place false r) (named d ts) h v
  values-accept r true (named d ts) h v = or-null-accepts says (keywords_of r) (place (inside false) (named d ts)) v ∙ ap (λ b. is_null v || b) (place-accepts (inside false) (named d ts) h v)

  abbrev pub ArePlainOthers : Others → Type 0
  ArePlainOthers (each m) = IsPlainType ss (substituted args m.value)
  ArePlainOthers _ = Unit {0}

  -- with the arguments put in
  abbrev pub others_over : Others → Others
  others_over any = any
  others_over none = none
  others_over (each m) = each (flattened_map_over args m)

  -- what is said of others asks of entries what the others do
  pub others-accept : (o : Others) → ArePlainOthers o → (ks : List (List ℕ)) (es : List (List ℕ × Json)) →
      where_given says (others_part o) (λ accepts. others_pass ks accepts es) ≡ others_fit instance ks (others_over o) es
  others-accept any h ks es = refl
  others-accept none h ks es = others-denied ks es
  others-accept (each m) h ks es = λ i. others_pass ks (λ w. values-accept m.annotations false m.value h w i) es

  -- what members ask of entries, and what is asked of others
  fields-accept : (o : Others) → ArePlainOthers o → (keywords : AnnotationKeywords) (ms : List MemberOf) → AreAllPlain ss (member_types (members_over ms)) → (es : Members) →
      tree_accepts says (own_term keywords o ms) (map es)
      ≡ (list_all (member_fits instance (entries es)) (members_over ms) && others_fit instance (member_names (members_over ms)) (others_over o) (entries es))
  fields-accept o ho keywords ms h es =
      and-last (properties_accept says (properties_of ms) (entries es))
      (where_given says (others_part o) (λ accepts. others_pass (property_names (properties_of ms)) accepts (entries es)))
      (list_all (λ k. is_in k (names (entries es))) (required_names ms) && true)
      ∙ (λ i. members-accept ms h (entries es) i && others-accept o ho (property_names-are args ms i) (entries es) i)

  pub own-accepts : (o : Others) → ArePlainOthers o → (keywords : AnnotationKeywords) (ms : List MemberOf) → AreAllPlain ss (member_types (members_over ms)) → (v : Json) →
      tree_accepts says (own_term keywords o ms) v
      ≡ is_map v (λ es. list_all (member_fits instance es) (members_over ms) && others_fit instance (member_names (members_over ms)) (others_over o) es)
  own-accepts o ho keywords ms h (map es) = fields-accept o ho keywords ms h es
  own-accepts o ho keywords ms h null = refl
  own-accepts o ho keywords ms h (boolean b) = refl
  own-accepts o ho keywords ms h (number m) = refl
  own-accepts o ho keywords ms h (text t) = refl
  own-accepts o ho keywords ms h (list xs) = refl

  -- ---- what is flattened

  abbrev pub all_flattened_over : List FlattenedOf → List FlattenedOf
  all_flattened_over fs = map_over (flattened_over args) fs

  -- each that is flattened accepts what has its shape
  pub flattened-accept : (fs : List FlattenedOf) → AreFlattened ss (all_flattened_over fs) → (more : SchemasOf LeafOf) (v : Json) →
      all_accept says (flattened_terms fs more) v ≡ (list_all (flattened_fits instance v) (all_flattened_over fs) && all_accept says more v)
  flattened-accept [] h more v = refl
  flattened-accept (f ∷ fs) h more v =
      (λ i. place-accepts (field_place f.annotations) f.of h.0.1 v i && flattened-accept fs h.1 more v i)
      ∙ sym (and-assoc (has f.of v) (list_all (flattened_fits instance v) (all_flattened_over fs)) (all_accept says more v))

  -- beside what is flattened the own object is left out where it says nothing: that a map stands there follows
  beside-own-accepts : HoldMaps ss instance → (f : FlattenedOf) (fs : List FlattenedOf) → AreFlattened ss (all_flattened_over (f ∷ fs)) → (ms : List MemberOf) →
      AreAllPlain ss (member_types (members_over ms)) → (v : Json) →
      (list_all (flattened_fits instance v) (all_flattened_over (f ∷ fs)) && all_accept says (own_beside None any ms no_schemas) v)
      ≡ (list_all (flattened_fits instance v) (all_flattened_over (f ∷ fs)) && is_map v (λ es. list_all (member_fits instance es) (members_over ms) && true))
  beside-own-accepts maps f fs hf [] h v =
      implied (list_all (flattened_fits instance v) (all_flattened_over (f ∷ fs))) (is_map v (λ es. true))
      (λ g. flattened-map maps (substituted args f.of) hf.0.0 v (and_parts (has f.of v) (list_all (flattened_fits instance v) (all_flattened_over fs)) g).0)
    where
      implied : (a b : Bool) → (IsTrue a → IsTrue b) → (a && true) ≡ (a && b)
      implied true b g = sym (g refl)
      implied false b g = refl

      flattened-map : HoldMaps ss instance → (t : Open) → CanBeFlattened ss t → (w : Json) → IsTrue (type_shape instance t w) → IsTrue (is_map w (λ es. true))
      flattened-map maps (named d ts) c w g = maps d ts c w g
      flattened-map maps (through k t) c w g = flattened-map maps t c w g
      flattened-map maps (leaf l) c w g = absurd c
      flattened-map maps any_value c w g = absurd c
      flattened-map maps free_object c w g = absurd c
      flattened-map maps unit c w g = absurd c
      flattened-map maps (tuple ts) c w g = absurd c
      flattened-map maps (items k t) c w g = absurd c
      flattened-map maps (set k t) c w g = absurd c
      flattened-map maps (map_of k s t) c w g = absurd c
      flattened-map maps (option t) c w g = absurd c
      flattened-map maps (param i) c w g = absurd c
  beside-own-accepts maps f fs hf (m ∷ ms) h v =
      λ i. list_all (flattened_fits instance v) (all_flattened_over (f ∷ fs)) && (and-true (tree_accepts says (own_term no_annotations any (m ∷ ms)) v) ∙ own-accepts any tt no_annotations (m ∷ ms) h v) i

  pub named-accepts : HoldMaps ss instance → (denies : Bool) (fs : List FlattenedOf) (x : Option FlattenedMapOf) →
      IsPlainBeside ss denies (all_flattened_over fs) (option_map (flattened_map_over args) x) → (r : Annotations) (ms : List MemberOf) → AreAllPlain ss (member_types (members_over ms)) → (v : Json) →
      tree_accepts says (named_term r fs x (others_beside denies fs x) ms) v
      ≡ (list_all (flattened_fits instance v) (all_flattened_over fs)
      && is_map v (λ es. list_all (member_fits instance es) (members_over ms)
      && others_fit instance (member_names (members_over ms)) (others_beside denies (all_flattened_over fs) (option_map (flattened_map_over args) x)) es))
  named-accepts maps false [] None hb r ms h v = own-accepts any tt (keywords_of r) ms h v
  named-accepts maps true [] None hb r ms h v = own-accepts none tt (keywords_of r) ms h v
  named-accepts maps false [] (Some x) hb r ms h v = own-accepts (each x) hb.1 (keywords_of r) ms h v
  named-accepts maps true [] (Some x) hb r ms h v = absurd hb
  named-accepts maps false (f ∷ fs) None hb r ms h v =
      flattened-accept (f ∷ fs) hb (own_beside None any ms no_schemas) v ∙ beside-own-accepts maps f fs hb ms h v
  named-accepts maps false (f ∷ fs) (Some x) hb r ms h v = absurd hb
  named-accepts maps true (f ∷ fs) None hb r ms h v = absurd hb
  named-accepts maps true (f ∷ fs) (Some x) hb r ms h v = absurd hb

  -- ---- unnamed fields

  -- Where the types are all t, elements fit them exactly if they are as many and each has the shape of t.
  elements-accept : SameIsEqual → (t : Open) (ts : List Open) → IsTrue (are_all t ts) → (vs : List Json) →
      (int_le (pos (length vs)) (pos (length ts)) && (int_le (pos (length ts)) (pos (length vs)) && list_all (has t) vs)) ≡ elements_fit instance (over ts) vs
  elements-accept same t [] h [] = refl
  elements-accept same t [] h (v ∷ vs) = λ i. leb-suc-zero (length vs) i && (int_le (pos 0) (pos (suc (length vs))) && list_all (has t) (v ∷ vs))
  elements-accept same t (u ∷ us) h [] = λ i. leb-zero (suc (length us)) i && (leb-suc-zero (length us) i && true)
  elements-accept same t (u ∷ us) h (v ∷ vs) =
      let equal : t ≡ u = (same t u).0 (and_parts (same_type t u) (are_all t us) h).0 in
      (λ i. leb-suc-suc (length vs) (length us) i && (leb-suc-suc (length us) (length vs) i && list_all (has t) (v ∷ vs)))
      ∙ and-third (int_le (pos (length vs)) (pos (length us))) (int_le (pos (length us)) (pos (length vs))) (has t v) (list_all (has t) vs)
      ∙ (λ i. has (equal i) v && elements-accept same t us (and_parts (same_type t u) (are_all t us) h).1 vs i)

  -- Elements that the fields' schemas accept by position, as many as there are types, fit the types.
  in_order-accept : (ts : List Open) → AreAllPlain ss (over ts) → (vs : List Json) →
      (int_le (pos (length vs)) (pos (length ts)) && (int_le (pos (length ts)) (pos (length vs))
      && (each_in_order says (field_terms ts) vs && list_all (λ w. false) (drop (schema_count (field_terms ts)) vs)))) ≡ elements_fit instance (over ts) vs
  in_order-accept [] h [] = refl
  in_order-accept [] h (v ∷ vs) = λ i. leb-suc-zero (length vs) i && (int_le (pos 0) (pos (suc (length vs))) && (true && list_all (λ w. false) (v ∷ vs)))
  in_order-accept (t ∷ ts) h [] = λ i. leb-zero (suc (length ts)) i && (leb-suc-zero (length ts) i && (true && true))
  in_order-accept (t ∷ ts) h (v ∷ vs) =
      let more : Bool = int_le (pos (length vs)) (pos (length ts)) in
      let fewer : Bool = int_le (pos (length ts)) (pos (length vs)) in
      let front : Bool = each_in_order says (field_terms ts) vs in
      let rest : Bool = list_all (λ w. false) (drop (schema_count (field_terms ts)) vs) in
      (λ i. leb-suc-suc (length vs) (length ts) i && (leb-suc-suc (length ts) (length vs) i && ((place-accepts (field_place unannotated) t h.0 v i && front) && rest)))
      ∙ (λ i. more && (fewer && and-assoc (has t v) front rest i))
      ∙ and-third more fewer (has t v) (front && rest)
      ∙ (λ i. has t v && in_order-accept ts h.1 vs i)

  alike-accepts : SameIsEqual → (r : Annotations) (t : Open) (ts : List Open) → IsPlainType ss (substituted args t) → IsTrue (are_all t ts) → (v : Json) →
      tree_accepts says (alike_term r (length ts) t) v ≡ is_list v (elements_fit instance (over ts))
  alike-accepts same r t ts h alike v =
      (λ i. word_accepts (array_word false) v && (on_list v (λ vs. int_le (pos (length vs)) (pos (length ts))) && (on_list v (λ vs. int_le (pos (length ts)) (pos (length vs)))
      && (on_list v (λ vs. true) && on_list v (list_all (λ w. place-accepts (field_place r) t h w i))))))
      ∙ exactly-accept v (λ vs. int_le (pos (length vs)) (pos (length ts))) (λ vs. int_le (pos (length ts)) (pos (length vs))) (λ vs. true) (list_all (has t))
      ∙ (λ i. is_list v (λ vs. elements-accept same t ts alike vs i))

  mixed-accepts : (r : Annotations) (ts : List Open) → AreAllPlain ss (over ts) → (v : Json) → tree_accepts says (mixed_term r ts) v ≡ is_list v (elements_fit instance (over ts))
  mixed-accepts r ts h v =
      exactly-accept v (λ vs. int_le (pos (length vs)) (pos (length ts))) (λ vs. int_le (pos (length ts)) (pos (length vs)))
      (each_in_order says (field_terms ts)) (λ vs. list_all (λ w. false) (drop (schema_count (field_terms ts)) vs))
      ∙ (λ i. is_list v (λ vs. in_order-accept ts h vs i))

  -- one place is the schema itself, several are a list; which list is told over the parameters
  pub unnamed-accepts : SameIsEqual → (r : Annotations) (ts : List Open) → AreAllPlain ss (over ts) → (v : Json) → tree_accepts says (unnamed_term r ts) v ≡ unnamed_shape instance (over ts) v
  unnamed-accepts same r [] h v = mixed-accepts r [] h v
  unnamed-accepts same r (t ∷ []) h v = place-accepts (field_place r) t h.0 v
  unnamed-accepts same r (t ∷ u ∷ us) h v = by (are_all t (u ∷ us)) refl
    where
      by : (b : Bool) → are_all t (u ∷ us) ≡ b →
          tree_accepts says (cond b (alike_term r (length (t ∷ u ∷ us)) t) (mixed_term r (t ∷ u ∷ us))) v ≡ is_list v (elements_fit instance (over (t ∷ u ∷ us)))
      by true alike = alike-accepts same r t (t ∷ u ∷ us) h.0 (and-both (same_type t t) (are_all t (u ∷ us)) ((same t t).1 refl) alike) v
      by false others = mixed-accepts r (t ∷ u ∷ us) h v

  -- ---- forms

  pub form-accepts : SameIsEqual → HoldMaps ss instance → (r : Annotations) (form : FormOf) → IsPlainForm ss (form_over args form) → (v : Json) →
      tree_accepts says (form_term r form) v ≡ form_shape instance (form_over args form) v
  form-accepts same maps r (named_fields b ms) h v = named-accepts maps b.denies b.flattened b.map h.1 r ms h.0 v
  form-accepts same maps r (unnamed_fields ts) h v = unnamed-accepts same r ts h v
  form-accepts same maps r no_fields h v = absurd h

-- ---- closed types

module _ (none : SubstitutedNone) (ss : List DeclarationOf) (instance : Open → Json → Bool) where
  -- The schema of a place of a closed type. It has no parameters, so no arguments are put in.
  pub closed-accepts : (at : PlaceOf) (t : Open) → IsPlainType ss t → (v : Json) → tree_accepts (leaf_shape instance) (place at t) v ≡ ((at.nullable && is_null v) || type_shape instance t v)
  closed-accepts at t h v =
      place-accepts ss instance no_types (leaf_shape instance) (λ d ts inline keywords w. ap (λ x. type_shape instance x w) (sym (none (named d ts)))) (λ i p w. absurd p) at t
      (subst (IsPlainType ss) (sym (none t)) h) v
      ∙ ap (λ x. (at.nullable && is_null v) || type_shape instance x v) (none t)

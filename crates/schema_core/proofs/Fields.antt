-- The members of a map that is put together field by field.
use Rattle.std.proofs.Common.{ℕ, List, [], ◌∷◌, Bool, true, false, ◌&&◌, ◌||◌, Option, Some, None, bytes_eq, nat_cmp, is_eq, cond, Ordering, Less, Equal, Greater, ◌≡◌, refl, ap, sym, ◌∙◌}
use Rattle.std.proofs.lemmas.Bool.{or_parts, or_from}
use Rattle.std.proofs.Math.Bool.{and-true}
use Rattle.std.specs.Cmp.Lexicographic.{slice_cmp}
use Rattle.std.specs.Ordering.{match_ordering}
use Rattle.std.proofs.lemmas.Map.Text.{is_eq-slice_cmp}
use Rattle.std.proofs.lemmas.Slice.Eq.{bytes_eq-Decides}
use Rattle.acceptance.specs.Json.{Json, Members, no_members, member, put, put_given, put_all, entries, names, look, if_there}
use Rattle.texts.specs.Names.{is_in}
use Rattle.acceptance.specs.Keyword.{keyword_of, other}
use Rattle.acceptance.specs.Acceptance.{keyword_holds, accepts_with, members_hold, properties_accept, prefix_accepts, all_accept, one_accepts, reference_holds, each_property}
use Rattle.schema_trees.specs.declared.annotations.AnnotationKeywords.{AnnotationKeywords as Annotations}
use Rattle.schema_core.specs.Form.{put_fields, annotation_fields}

or-swap : (a b c : Bool) → (a || (b || c)) ≡ (b || (a || c))
or-swap true true c = refl
or-swap true false c = refl
or-swap false b c = refl

and-swap : (a b c : Bool) → (a && (b && c)) ≡ (b && (a && c))
and-swap true b c = refl
and-swap false true c = refl
and-swap false false c = refl

twice : (a b : Bool) → (a || b) ≡ (a || (a || b))
twice true b = refl
twice false b = refl

pub equal_names : (k l : List ℕ) → slice_cmp nat_cmp k l ≡ Equal → k ≡ l
equal_names k l e = (bytes_eq-Decides k l).0 (sym (is_eq-slice_cmp k l) ∙ ap is_eq e)

pub same_name : (k : List ℕ) → bytes_eq k k ≡ true
same_name k = (bytes_eq-Decides k k).1 refl

-- two texts that compare as equal are one: a name that is not there does not
equal_there : (k l : List ℕ) (b : Bool) → slice_cmp nat_cmp k l ≡ Equal → (bytes_eq k l || b) ≡ false → true ≡ false
equal_there k l b e h = sym ((bytes_eq-Decides k l).1 (equal_names k l e)) ∙ (or_parts (bytes_eq k l) b h).0

pub names-put : (j k : List ℕ) (x : Json) (ms : Members) → is_in j (names (entries (put k x ms))) ≡ (bytes_eq j k || is_in j (names (entries ms)))
names-put j k x no_members = refl
names-put j k x (member l y ms) = by (slice_cmp nat_cmp k l) refl (names-put j k x ms)
  where
    by : (o : Ordering) → slice_cmp nat_cmp k l ≡ o → is_in j (names (entries (put k x ms))) ≡ (bytes_eq j k || is_in j (names (entries ms))) →
        is_in j (names (entries (match_ordering o (member k x (member l y ms)) (member l x ms) (member l y (put k x ms))))) ≡ (bytes_eq j k || (bytes_eq j l || is_in j (names (entries ms))))
    by Less e ih = refl
    by Equal e ih = twice (bytes_eq j l) (is_in j (names (entries ms))) ∙ ap (λ n. bytes_eq j n || (bytes_eq j l || is_in j (names (entries ms)))) (sym (equal_names k l e))
    by Greater e ih = ap (λ b. bytes_eq j l || b) ih ∙ or-swap (bytes_eq j l) (bytes_eq j k) (is_in j (names (entries ms)))

pub look-put : (j k : List ℕ) (x : Json) (ms : Members) → look j (entries (put k x ms)) ≡ cond (bytes_eq j k) (Some x) (look j (entries ms))
look-put j k x no_members = refl
look-put j k x (member l y ms) = by (slice_cmp nat_cmp k l) refl (look-put j k x ms)
  where
    swap : (a b : Bool) (rest : Option Json) → (a ≡ true → b ≡ true → true ≡ false) → cond b (Some y) (cond a (Some x) rest) ≡ cond a (Some x) (cond b (Some y) rest)
    swap true true rest h = absurd_of (h refl refl)
      where
        absurd_of : true ≡ false → ◌≡◌ {A = Option Json} (Some y) (Some x)
        absurd_of e = cc
    swap true false rest h = refl
    swap false true rest h = refl
    swap false false rest h = refl

    both : slice_cmp nat_cmp k l ≡ Greater → bytes_eq j k ≡ true → bytes_eq j l ≡ true → true ≡ false
    both e p q =
        let same : k ≡ l = sym ((bytes_eq-Decides j k).0 p) ∙ (bytes_eq-Decides j l).0 q in
        let no : bytes_eq k l ≡ false = sym (is_eq-slice_cmp k l) ∙ ap is_eq e in
        sym ((bytes_eq-Decides k l).1 same) ∙ no

    by : (o : Ordering) → slice_cmp nat_cmp k l ≡ o → look j (entries (put k x ms)) ≡ cond (bytes_eq j k) (Some x) (look j (entries ms)) →
        look j (entries (match_ordering o (member k x (member l y ms)) (member l x ms) (member l y (put k x ms)))) ≡ cond (bytes_eq j k) (Some x) (cond (bytes_eq j l) (Some y) (look j (entries ms)))
    by Less e ih = refl
    by Equal e ih = shadow (bytes_eq j l) ∙ ap (λ n. cond (bytes_eq j n) (Some x) (cond (bytes_eq j l) (Some y) (look j (entries ms)))) (sym (equal_names k l e))
      where
        shadow : (b : Bool) → cond b (Some x) (look j (entries ms)) ≡ cond b (Some x) (cond b (Some y) (look j (entries ms)))
        shadow true = refl
        shadow false = refl
    by Greater e ih = ap (λ o. cond (bytes_eq j l) (Some y) o) ih ∙ swap (bytes_eq j k) (bytes_eq j l) (look j (entries ms)) (both e)

-- what stands at a name after a field
abbrev pub given_at : Bool → Option Json → Option Json → Option Json
given_at false o before = before
given_at true None before = before
given_at true (Some x) before = Some x

abbrev pub look_fields : List ℕ → List (List ℕ × Option Json) → Option Json → Option Json
look_fields k [] before = before
look_fields k (f ∷ fs) before = look_fields k fs (given_at (bytes_eq k f.0) f.1 before)

look-given : (j k : List ℕ) (o : Option Json) (ms : Members) → look j (entries (put_given k o ms)) ≡ given_at (bytes_eq j k) o (look j (entries ms))
look-given j k None ms = by (bytes_eq j k)
  where
    by : (b : Bool) → look j (entries ms) ≡ given_at b None (look j (entries ms))
    by false = refl
    by true = refl
look-given j k (Some x) ms = look-put j k x ms ∙ by (bytes_eq j k)
  where
    by : (b : Bool) → cond b (Some x) (look j (entries ms)) ≡ given_at b (Some x) (look j (entries ms))
    by false = refl
    by true = refl

pub look-fields : (k : List ℕ) (fs : List (List ℕ × Option Json)) (ms : Members) → look k (entries (put_fields fs ms)) ≡ look_fields k fs (look k (entries ms))
look-fields k [] ms = refl
look-fields k (f ∷ fs) ms = look-fields k fs (put_given f.0 f.1 ms) ∙ ap (look_fields k fs) (look-given k f.0 f.1 ms)

module _ (R : List ℕ → Json → Bool) (w : Members) where
  -- what one member says
  abbrev pub member_holds : List ℕ → Json → Json → Bool
  member_holds k x v =
      keyword_holds (keyword_of k) w x (record {
        as_schema = accepts_with R x;
        as_properties = properties_accept R x;
        as_prefix = prefix_accepts R x;
        as_all = all_accept R x;
        as_one = one_accepts R x;
        as_reference = reference_holds R x;
      }) v

  abbrev pub field_holds : List ℕ × Option Json → Json → Bool
  field_holds f v = if_there f.1 (λ x. member_holds f.0 x v)

  abbrev pub fields_hold : List (List ℕ × Option Json) → Json → Bool
  fields_hold [] v = true
  fields_hold (f ∷ fs) v = field_holds f v && fields_hold fs v

  holds-put : (k : List ℕ) (x : Json) (ms : Members) (v : Json) → is_in k (names (entries ms)) ≡ false → members_hold R w (put k x ms) v ≡ (member_holds k x v && members_hold R w ms v)
  holds-put k x no_members v h = refl
  holds-put k x (member l y ms) v h = by (slice_cmp nat_cmp k l) refl (holds-put k x ms v ((or_parts (bytes_eq k l) (is_in k (names (entries ms))) h).1))
    where
      by : (o : Ordering) → slice_cmp nat_cmp k l ≡ o → members_hold R w (put k x ms) v ≡ (member_holds k x v && members_hold R w ms v) →
          members_hold R w (match_ordering o (member k x (member l y ms)) (member l x ms) (member l y (put k x ms))) v ≡ (member_holds k x v && (member_holds l y v && members_hold R w ms v))
      by Less e ih = refl
      by Equal e ih = let no = equal_there k l (is_in k (names (entries ms))) e h in cc
      by Greater e ih = ap (λ b. member_holds l y v && b) ih ∙ and-swap (member_holds l y v) (member_holds k x v) (members_hold R w ms v)

  holds-given : (k : List ℕ) (o : Option Json) (ms : Members) (v : Json) → is_in k (names (entries ms)) ≡ false → members_hold R w (put_given k o ms) v ≡ (field_holds (k, o) v && members_hold R w ms v)
  holds-given k None ms v h = refl
  holds-given k (Some x) ms v h = holds-put k x ms v h

names-given : (j k : List ℕ) (o : Option Json) (ms : Members) → bytes_eq j k ≡ false → is_in j (names (entries ms)) ≡ false → is_in j (names (entries (put_given k o ms))) ≡ false
names-given j k None ms e h = h
names-given j k (Some x) ms e h = names-put j k x ms ∙ or_from (bytes_eq j k) (is_in j (names (entries ms))) e h

-- the fields have names of their own, and none that is taken
abbrev pub AreFresh : List (List ℕ × Option Json) → List (List ℕ) → Type 0
AreFresh [] taken = Unit {0}
AreFresh (f ∷ fs) taken = (is_in f.0 taken ≡ false) × AreFresh fs (f.0 ∷ taken)

-- no name of the fields is a keyword
abbrev pub AreOthers : List (List ℕ × Option Json) → Type 0
AreOthers [] = Unit {0}
AreOthers (f ∷ fs) = (keyword_of f.0 ≡ other) × AreOthers fs

pub others-annotations : (annotations : Annotations) → AreOthers (annotation_fields annotations)
others-annotations annotations = (refl, (refl, (refl, (refl, (refl, (refl, (refl, (refl, (refl, (refl, tt))))))))))

and-last : (a b c : Bool) → (a && (b && c)) ≡ ((b && a) && c)
and-last true true c = refl
and-last true false c = refl
and-last false true c = refl
and-last false false c = refl

module _ (R : List ℕ → Json → Bool) (w : Members) where
  fields-hold : (fs : List (List ℕ × Option Json)) (taken : List (List ℕ)) (ms : Members) (v : Json) → AreFresh fs taken → ((j : List ℕ) → is_in j taken ≡ false → is_in j (names (entries ms)) ≡ false) →
      members_hold R w (put_fields fs ms) v ≡ (fields_hold R w fs v && members_hold R w ms v)
  fields-hold [] taken ms v h t = refl
  fields-hold (f ∷ fs) taken ms v h t =
      fields-hold fs (f.0 ∷ taken) (put_given f.0 f.1 ms) v h.1 (λ j e. names-given j f.0 f.1 ms ((or_parts (bytes_eq j f.0) (is_in j taken) e).0) (t j ((or_parts (bytes_eq j f.0) (is_in j taken) e).1)))
      ∙ ap (λ b. fields_hold R w fs v && b) (holds-given R w f.0 f.1 ms v (t f.0 h.0))
      ∙ and-last (fields_hold R w fs v) (field_holds R w f v) (members_hold R w ms v)

  -- a map of fields holds where each field does
  pub map-of-fields : (fs : List (List ℕ × Option Json)) (v : Json) → AreFresh fs [] → members_hold R w (put_fields fs no_members) v ≡ fields_hold R w fs v
  map-of-fields fs v h = fields-hold fs [] no_members v h (λ j e. refl) ∙ and-true (fields_hold R w fs v)

-- ---- maps of schemas by their names
abbrev pub entries_accept : (List ℕ → Json → Bool) → List (List ℕ × Json) → List (List ℕ × Json) → Bool
entries_accept R [] es = true
entries_accept R (p ∷ ps) es = if_there (look p.0 es) (accepts_with R p.1) && entries_accept R ps es

abbrev pub AreNew : List (List ℕ × Json) → List (List ℕ) → Type 0
AreNew [] taken = Unit {0}
AreNew (p ∷ ps) taken = (is_in p.0 taken ≡ false) × AreNew ps (p.0 ∷ taken)

module _ (R : List ℕ → Json → Bool) where
  properties-put : (k : List ℕ) (x : Json) (ms : Members) (es : List (List ℕ × Json)) → is_in k (names (entries ms)) ≡ false →
      each_property R (put k x ms) es ≡ (if_there (look k es) (accepts_with R x) && each_property R ms es)
  properties-put k x no_members es h = refl
  properties-put k x (member l y ms) es h = by (slice_cmp nat_cmp k l) refl (properties-put k x ms es ((or_parts (bytes_eq k l) (is_in k (names (entries ms))) h).1))
    where
      by : (o : Ordering) → slice_cmp nat_cmp k l ≡ o → each_property R (put k x ms) es ≡ (if_there (look k es) (accepts_with R x) && each_property R ms es) →
          each_property R (match_ordering o (member k x (member l y ms)) (member l x ms) (member l y (put k x ms))) es
          ≡ (if_there (look k es) (accepts_with R x) && (if_there (look l es) (accepts_with R y) && each_property R ms es))
      by Less e ih = refl
      by Equal e ih = let no = equal_there k l (is_in k (names (entries ms))) e h in cc
      by Greater e ih = ap (λ b. if_there (look l es) (accepts_with R y) && b) ih ∙ and-swap (if_there (look l es) (accepts_with R y)) (if_there (look k es) (accepts_with R x)) (each_property R ms es)

  all-put : (ps : List (List ℕ × Json)) (taken : List (List ℕ)) (ms : Members) (es : List (List ℕ × Json)) → AreNew ps taken → ((j : List ℕ) → is_in j taken ≡ false → is_in j (names (entries ms)) ≡ false) →
      each_property R (put_all ps ms) es ≡ (entries_accept R ps es && each_property R ms es)
  all-put [] taken ms es h t = refl
  all-put (p ∷ ps) taken ms es h t =
      all-put ps (p.0 ∷ taken) (put p.0 p.1 ms) es h.1 (λ j e. names-given j p.0 (Some p.1) ms ((or_parts (bytes_eq j p.0) (is_in j taken) e).0) (t j ((or_parts (bytes_eq j p.0) (is_in j taken) e).1)))
      ∙ ap (λ b. entries_accept R ps es && b) (properties-put p.0 p.1 ms es (t p.0 h.0))
      ∙ and-last (entries_accept R ps es) (if_there (look p.0 es) (accepts_with R p.1)) (each_property R ms es)

  pub map-of-entries : (ps : List (List ℕ × Json)) (es : List (List ℕ × Json)) → AreNew ps [] → each_property R (put_all ps no_members) es ≡ entries_accept R ps es
  map-of-entries ps es h = all-put ps [] no_members es h (λ j e. refl) ∙ and-true (entries_accept R ps es)

-- the names of the map of the entries
pub names-put_all : (j : List ℕ) (ps : List (List ℕ × Json)) (ms : Members) → is_in j (names (entries (put_all ps ms))) ≡ (is_in j (names ps) || is_in j (names (entries ms)))
names-put_all j [] ms = refl
names-put_all j (p ∷ ps) ms =
    names-put_all j ps (put p.0 p.1 ms) ∙ ap (λ b. is_in j (names ps) || b) (names-put j p.0 p.1 ms) ∙ or-front (is_in j (names ps)) (bytes_eq j p.0) (is_in j (names (entries ms)))
  where
    or-front : (a b c : Bool) → (a || (b || c)) ≡ ((b || a) || c)
    or-front true true c = refl
    or-front true false c = refl
    or-front false true c = refl
    or-front false false c = refl

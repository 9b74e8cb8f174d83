-- Members written one after another are those of the form.
use Rattle.std.proofs.Common.{ℕ, Bool, true, false, ◌&&◌, List, [], ◌∷◌, ◌++◌, Option, Some, None, IfSome, Ordering, Less, Equal, Greater, ◌≡◌, refl, ap, sym, subst, ◌∙◌, codes}
use Rattle.std.proofs.lemmas.Bool.{and_parts, false≢true}
use Rattle.std.proofs.lemmas.List.{append-nil, append_assoc}
use Rattle.std.specs.List.{AllByRecursion}
use Rattle.std.specs.Ordering.{match_ordering}
use Rattle.json.specs.Print.{quoted, escape_byte}
use Rattle.serde_json.specs.Written.{compact_text, members_text, comma_if}
use Rattle.acceptance.specs.Json.{Json, text, list, no_items, item, Members, no_members, member, put, put_given}
use Rattle.acceptance.specs.Data.{data_of, members_data}
use Rattle.schema_trees.specs.Held.{IsHeld}
use Rattle.schema_trees.specs.declared.tree.SchemaTypeInner.{SchemaTypeInner}
use Rattle.schema_trees.specs.declared.tree.SchemaTypeInner.TheVariants as word
use Rattle.schema_core.specs.Form.{put_fields, fields_form, word_text}
use Rattle.schema_core.specs.Writes.{key_text, field_text, goes_on, fields_text, is_later, Writes, WritesValue}
use Rattle.schema_core.proofs.EntryLaws.{compare, all-append}
use Rattle.schema_core.proofs.Held.{fields_held}

abbrev pub Field : Type 0
Field = List ℕ × Option Json

-- ---- one after another

fields_text-append : (later : Bool) (fs gs : List Field) → fields_text later (fs ++ gs) ≡ fields_text later fs ++ fields_text (is_later later fs) gs
fields_text-append later [] gs = refl
fields_text-append later (f ∷ fs) gs =
    let now = field_text later f.0 f.1 in
    ap (λ xs. now ++ xs) (fields_text-append (goes_on later f.1) fs gs) ∙ sym (append_assoc now (fields_text (goes_on later f.1) fs) _)

is_later-append : (later : Bool) (fs gs : List Field) → is_later later (fs ++ gs) ≡ is_later (is_later later fs) gs
is_later-append later [] gs = refl
is_later-append later (f ∷ fs) gs = is_later-append (goes_on later f.1) fs gs

abbrev AreHeld : List Field → Type 0
AreHeld fs = AllByRecursion (λ f. IfSome f.1 IsHeld) fs

pub then : {fs gs : List Field} {a b c : Bool} {x y z : List ℕ} → Writes fs a x b y → Writes gs b y c z → Writes (fs ++ gs) a x c z
then {fs} {gs} {a} {b} {c} {x} {y} {z} v w = record {
  text_is =
      w.text_is ∙ ap (λ l. y ++ fields_text l gs) v.later_is ∙ ap (λ t. t ++ fields_text (is_later a fs) gs) v.text_is ∙ append_assoc x (fields_text a fs) (fields_text (is_later a fs) gs)
      ∙ ap (λ t. x ++ t) (sym (fields_text-append a fs gs));
  later_is = w.later_is ∙ ap (λ l. is_later l gs) v.later_is ∙ sym (is_later-append a fs gs);
  held = all-append (λ f. IfSome f.1 IsHeld) fs gs v.held w.held;
}

pub present : (k : List ℕ) (v : Json) (later : Bool) (key x y z : List ℕ) → key ≡ key_text k → y ≡ x ++ (comma_if later ++ key) → z ≡ y ++ compact_text (data_of v) → IsHeld v →
    Writes ((k, Some v) ∷ []) later x true z
present k v later key x y z e f g held =
    let value = compact_text (data_of v) in
    record {
      text_is =
          g ∙ ap (λ t. t ++ value) (f ∙ ap (λ t. x ++ (comma_if later ++ t)) e) ∙ append_assoc x (comma_if later ++ key_text k) value
          ∙ ap (λ t. x ++ t) (append_assoc (comma_if later) (key_text k) value ∙ sym (append-nil _));
      later_is = refl;
      held = (held, tt);
    }

-- the same, where the value begins with the key
pub present_from : (k : List ℕ) (v : Json) (later : Bool) (first rest key x y z : List ℕ) → key ≡ key_text k ++ first → y ≡ x ++ (comma_if later ++ key) → z ≡ y ++ rest →
    first ++ rest ≡ compact_text (data_of v) → IsHeld v → Writes ((k, Some v) ∷ []) later x true z
present_from k v later first rest key x y z e f g h held =
    let up_to_key = x ++ (comma_if later ++ key_text k) in
    let begun : y ≡ up_to_key ++ first =
    f ∙ ap (λ t. x ++ (comma_if later ++ t)) e ∙ ap (λ t. x ++ t) (sym (append_assoc (comma_if later) (key_text k) first)) ∙ sym (append_assoc x (comma_if later ++ key_text k) first) in
    present k v later (key_text k) x up_to_key z refl refl (g ∙ ap (λ t. t ++ rest) begun ∙ append_assoc up_to_key first rest ∙ ap (λ t. up_to_key ++ t) h) held

pub one_word : (w : SchemaTypeInner) → 34 ∷ (word_text w ++ 34 ∷ []) ≡ compact_text (data_of (text (word_text w)))
unfolding escape_byte
one_word word.Object = refl
one_word word.String = refl
one_word word.Integer = refl
one_word word.Number = refl
one_word word.Boolean = refl
one_word word.Array = refl
one_word word.Null = refl

pub with_null : (w : SchemaTypeInner) → 91 ∷ 34 ∷ (word_text w ++ codes "\",\"null\"]") ≡ compact_text (data_of (list (item (text (word_text w)) (item (text (codes "null")) no_items))))
unfolding escape_byte
with_null word.Object = refl
with_null word.String = refl
with_null word.Integer = refl
with_null word.Number = refl
with_null word.Boolean = refl
with_null word.Array = refl
with_null word.Null = refl

-- ---- in byte order

-- the members that are given
abbrev pub given : List Field → Members
given [] = no_members
given ((k, None) ∷ fs) = given fs
given ((k, Some x) ∷ fs) = member k x (given fs)

abbrev insert_field : Field → List Field → List Field
insert_field f [] = f ∷ []
insert_field f (g ∷ gs) = match_ordering (compare f.0 g.0) (f ∷ g ∷ gs) (g ∷ gs) (g ∷ insert_field f gs)

abbrev pub insert_fields : List Field → List Field → List Field
insert_fields [] gs = gs
insert_fields (f ∷ fs) gs = insert_fields fs (insert_field f gs)

abbrev is_below : List ℕ → List Field → Bool
is_below k [] = true
is_below k (g ∷ gs) = match_ordering (compare k g.0) (is_below k gs) false false

-- no key is k, and all behind the first that is above it are above it too
abbrev fits : List ℕ → List Field → Bool
fits k [] = true
fits k (g ∷ gs) = match_ordering (compare k g.0) (is_below k gs) false (fits k gs)

abbrev pub all_fit : List Field → List Field → Bool
all_fit [] gs = true
all_fit (f ∷ fs) gs = fits f.0 gs && all_fit fs (insert_field f gs)

put_below : (k : List ℕ) (x : Json) (gs : List Field) → is_below k gs ≡ true → put k x (given gs) ≡ member k x (given gs)
put_below k x [] h = refl
put_below k x ((l, None) ∷ gs) h = by (compare k l) h (put_below k x gs)
  where
    by : (o : Ordering) → match_ordering o (is_below k gs) false false ≡ true → (is_below k gs ≡ true → put k x (given gs) ≡ member k x (given gs)) → put k x (given gs) ≡ member k x (given gs)
    by Less h f = f h
    by Equal h f = cc
    by Greater h f = cc
put_below k x ((l, Some y) ∷ gs) h = by (compare k l) h
  where
    ms : Members
    ms = member l y (given gs)

    by : (o : Ordering) → match_ordering o (is_below k gs) false false ≡ true → match_ordering o (member k x ms) (member l x (given gs)) (member l y (put k x (given gs))) ≡ member k x ms
    by Less h = refl
    by Equal h = cc
    by Greater h = cc

put_absent : (k : List ℕ) (gs : List Field) → fits k gs ≡ true → given gs ≡ given (insert_field (k, None) gs)
put_absent k [] h = refl
put_absent k ((l, None) ∷ gs) h = by (compare k l) h (put_absent k gs)
  where
    g : Field
    g = (l, None)

    by : (o : Ordering) → match_ordering o (is_below k gs) false (fits k gs) ≡ true → (fits k gs ≡ true → given gs ≡ given (insert_field (k, None) gs)) → given gs ≡ given (match_ordering o ((k, None) ∷ g ∷ gs) (g ∷ gs) (g ∷ insert_field (k, None) gs))
    by Less h f = refl
    by Equal h f = refl
    by Greater h f = f h
put_absent k ((l, Some y) ∷ gs) h = by (compare k l) h (put_absent k gs)
  where
    g : Field
    g = (l, Some y)

    by : (o : Ordering) → match_ordering o (is_below k gs) false (fits k gs) ≡ true → (fits k gs ≡ true → given gs ≡ given (insert_field (k, None) gs)) → member l y (given gs) ≡ given (match_ordering o ((k, None) ∷ g ∷ gs) (g ∷ gs) (g ∷ insert_field (k, None) gs))
    by Less h f = refl
    by Equal h f = refl
    by Greater h f = ap (member l y) (f h)

put_present : (k : List ℕ) (x : Json) (gs : List Field) → fits k gs ≡ true → put k x (given gs) ≡ given (insert_field (k, Some x) gs)
put_present k x [] h = refl
put_present k x ((l, None) ∷ gs) h = by (compare k l) h (put_present k x gs)
  where
    g : Field
    g = (l, None)

    by : (o : Ordering) → match_ordering o (is_below k gs) false (fits k gs) ≡ true → (fits k gs ≡ true → put k x (given gs) ≡ given (insert_field (k, Some x) gs)) → put k x (given gs) ≡ given (match_ordering o ((k, Some x) ∷ g ∷ gs) (g ∷ gs) (g ∷ insert_field (k, Some x) gs))
    by Less h f = put_below k x gs h
    by Equal h f = cc
    by Greater h f = f h
put_present k x ((l, Some y) ∷ gs) h = by (compare k l) h (put_present k x gs)
  where
    g : Field
    g = (l, Some y)

    ms : Members
    ms = member l y (given gs)

    by : (o : Ordering) → match_ordering o (is_below k gs) false (fits k gs) ≡ true → (fits k gs ≡ true → put k x (given gs) ≡ given (insert_field (k, Some x) gs)) →
        match_ordering o (member k x ms) (member l x (given gs)) (member l y (put k x (given gs))) ≡ given (match_ordering o ((k, Some x) ∷ g ∷ gs) (g ∷ gs) (g ∷ insert_field (k, Some x) gs))
    by Less h f = refl
    by Equal h f = cc
    by Greater h f = ap (member l y) (f h)

put_one : (k : List ℕ) (o : Option Json) (gs : List Field) → fits k gs ≡ true → put_given k o (given gs) ≡ given (insert_field (k, o) gs)
put_one k None gs h = put_absent k gs h
put_one k (Some x) gs h = put_present k x gs h

put_fields-given : (fs gs : List Field) → all_fit fs gs ≡ true → put_fields fs (given gs) ≡ given (insert_fields fs gs)
put_fields-given [] gs h = refl
put_fields-given (f ∷ fs) gs h =
    let both = and_parts (fits f.0 gs) (all_fit fs (insert_field f gs)) h in
    ap (put_fields fs) (put_one f.0 f.1 gs both.0) ∙ put_fields-given fs (insert_field f gs) both.1

given_text : (later : Bool) (gs : List Field) → members_text later (members_data (given gs)) ≡ fields_text later gs ++ 125 ∷ []
given_text later [] = refl
given_text later ((k, None) ∷ gs) = given_text later gs
given_text later ((k, Some x) ∷ gs) =
    let value = compact_text (data_of x) in
    let written = members_text true (members_data (given gs)) in
    let rest = fields_text true gs ++ 125 ∷ [] in
    ap (λ xs. comma_if later ++ xs)
    (sym (append_assoc (quoted k) (58 ∷ []) (value ++ written)) ∙ sym (append_assoc (key_text k) value written) ∙ ap (λ xs. (key_text k ++ value) ++ xs) (given_text true gs))
    ∙ sym (append_assoc (comma_if later) (key_text k ++ value) rest)
    ∙ sym (append_assoc (field_text later k (Some x)) (fields_text true gs) (125 ∷ []))

-- The members of the form stand in the order of fs, if fs are its fields in byte order of their keys.
pub in_order : (fs gs : List Field) → all_fit gs [] ≡ true → insert_fields gs [] ≡ fs → 123 ∷ (fields_text false fs ++ 125 ∷ []) ≡ compact_text (data_of (fields_form gs))
in_order fs gs h e =
    ap (λ xs. 123 ∷ xs) (ap (λ hs. fields_text false hs ++ 125 ∷ []) (sym e) ∙ sym (given_text false (insert_fields gs [])) ∙ ap (λ ms. members_text false (members_data ms)) (sym (put_fields-given gs [] h)))

-- fields that fit are held where each is that stands among the others at its place
one_held : (f : Field) (gs : List Field) → fits f.0 gs ≡ true → AreHeld (insert_field f gs) → IfSome f.1 IsHeld × AreHeld gs
one_held f [] fit h = (h.0, tt)
one_held f (g ∷ gs) fit h = by (compare f.0 g.0) fit h (one_held f gs)
  where
    by : (o : Ordering) → match_ordering o (is_below f.0 gs) false (fits f.0 gs) ≡ true → AreHeld (match_ordering o (f ∷ g ∷ gs) (g ∷ gs) (g ∷ insert_field f gs)) →
        (fits f.0 gs ≡ true → AreHeld (insert_field f gs) → IfSome f.1 IsHeld × AreHeld gs) → IfSome f.1 IsHeld × AreHeld (g ∷ gs)
    by Less fit h rest = h
    by Equal fit h rest = absurd (false≢true fit)
    by Greater fit h rest = let both = rest fit h.1 in (both.0, (h.0, both.1))

all_held : (fs gs : List Field) → all_fit fs gs ≡ true → AreHeld (insert_fields fs gs) → AreHeld fs × AreHeld gs
all_held [] gs fit h = (tt, h)
all_held (f ∷ fs) gs fit h =
    let fits_both = and_parts (fits f.0 gs) (all_fit fs (insert_field f gs)) fit in
    let others = all_held fs (insert_field f gs) fits_both.1 h in
    let first = one_held f gs fits_both.0 others.1 in
    ((first.0, others.0), first.1)

-- an object: its bracket, its members in their order, and its bracket
pub object_text : {fs : List Field} {went : Bool} (gs : List Field) (before begun inside closed : List ℕ) → all_fit gs [] ≡ true → insert_fields gs [] ≡ fs →
    begun ≡ before ++ 123 ∷ [] → Writes fs false begun went inside → closed ≡ inside ++ 125 ∷ [] → WritesValue (fields_form gs) before closed
object_text {fs} gs before begun inside closed h e o w c =
    let inner = fields_text false fs in
    record {
      text_is =
          c ∙ ap (λ t. t ++ 125 ∷ []) (w.text_is ∙ ap (λ t. t ++ inner) o) ∙ append_assoc (before ++ 123 ∷ []) inner (125 ∷ []) ∙ append_assoc before (123 ∷ []) (inner ++ 125 ∷ [])
          ∙ ap (λ t. before ++ t) (in_order fs gs h e);
      held = fields_held gs (all_held gs [] h (subst AreHeld (sym e) w.held)).0;
    }

-- What is flattened beside members of their own: where it is there, and what is known of it then.
use Rattle.std.proofs.Common.{ℕ, suc, ◌<◌, List, [], ◌∷◌, ◌++◌, length, take, drop, get_or, drop-cons, arith, Bool, true, not, cond, is_some, IsSome, option_to_list, map, filter, filter_map, Option, Some, None, option_map, option_and_then, ◌≡◌, ◌∙◌, refl, ap, sym, subst}
use Rattle.std.specs.List.{cons_option, last_or}
use Rattle.std.specs.Option.{option_or}
use Rattle.std.proofs.lemmas.List.{map-append, take-append-drop}
use Rattle.std.proofs.lemmas.List.Elements.{filter-append, filter_map-append}
use Rattle.std.proofs.lemmas.Bool.{false≢true}
use Rattle.std.proofs.lemmas.Option.{none-some, same_Some}
use Rattle.diag.specs.Diagnostics.{diagnostic, with_suggestion}
use Rattle.diag.specs.Refusal.{RefusesNone}
use Rattle.diag.specs.declared.error.DeriveError.{DeriveError}
use Rattle.diag.specs.declared.error.DeriveError.TheVariants.{Refused}
use Rattle.diag.specs.declared.kind.Kind.TheVariants.{FlattenedMaps}
use Rattle.diag.specs.declared.suggestion.Suggestion.TheVariants.{Note}
use Rattle.texts.proofs.Laws.{mapped, and_then}
use Rattle.written_types.specs.declared.written.Ident.{Ident}
use Rattle.syntax.specs.Items.{FieldItem}
use Rattle.shapes.specs.Declarations.{MemberOf, FlattenedMapOf, BesideOf, FormOf, named_fields}
use Rattle.derive_decl.specs.Fields.{FieldRules}
use Rattle.derive_decl.specs.Resolved.{Around, text_of, TypedOf, is_map, maps_among, are_several, has_one_map, flattened_fields, field_from, map_from, members_of, beside_from, named_form}
use Rattle.derive_decl.specs.Faults.{maps_message, first_map_note, second_map_note, IsSecondMap, AreSeveralMaps}

-- the form is of these flattened fields and these members
pub record IsNamedForm (around : Around) (rules : FieldRules) (fs : List FieldItem) (form : FormOf) : Type 0 where
  pub beside : List TypedOf
  pub members : List MemberOf
  pub flattened : flattened_fields around fs ≡ Some beside
  pub own : members_of around rules fs ≡ Some members
  pub is : named_fields (beside_from rules.denies beside) members ≡ form

pub named_parts : (around : Around) (rules : FieldRules) (fs : List FieldItem) (form : FormOf) → named_form around rules fs ≡ Some form → IsNamedForm around rules fs form
named_parts around rules fs form e =
    let beside = and_then (λ ts. option_map (named_fields (beside_from rules.denies ts)) (members_of around rules fs)) (flattened_fields around fs) form e in
    let own = mapped (named_fields (beside_from rules.denies beside.0)) (members_of around rules fs) form beside.2 in
    record { beside = beside.0; members = own.0; flattened = beside.1; own = own.1; is = own.2 }

-- what is flattened, and members
pub formed : (denies : Bool) (o : Option (List TypedOf)) (p : Option (List MemberOf)) (b : BesideOf) (ms : List MemberOf) → option_map (beside_from denies) o ≡ Some b → p ≡ Some ms
    → option_and_then (λ ts. option_map (named_fields (beside_from denies ts)) p) o ≡ Some (named_fields b ms)
formed denies None p b ms e g = absurd (none-some b e)
formed denies (Some ts) p b ms e g = ap (option_map (named_fields (beside_from denies ts))) g ∙ ap (λ x. Some (named_fields x ms)) (same_Some (beside_from denies ts) b e)

-- where nothing is refused there is at most one map, and where there is nothing is
pub one_given : (x : Ident) (ts : List TypedOf) → RefusesNone (AreSeveralMaps x (maps_among ts)) → has_one_map ts ≡ true
one_given x ts none = by (maps_among ts) none
  where
    by : (ms : List TypedOf) → RefusesNone (AreSeveralMaps x ms) → not (are_several ms) ≡ true
    by [] none = refl
    by (m ∷ []) none = refl
    by (m ∷ n ∷ ms) none =
        absurd (none (Refused (with_suggestion (Note (second_map_note (text_of n.field.ident))) (with_suggestion (Note (first_map_note (text_of m.field.ident))) (diagnostic FlattenedMaps n.field.span (maps_message x.text) ∷ [])))) refl)

pub one_clear : (x : Ident) (ts : List TypedOf) → has_one_map ts ≡ true → RefusesNone (AreSeveralMaps x (maps_among ts))
one_clear x ts one = by (maps_among ts) one
  where
    by : (ms : List TypedOf) → not (are_several ms) ≡ true → RefusesNone (AreSeveralMaps x ms)
    by [] one e several = several
    by (m ∷ []) one e several = several
    by (m ∷ n ∷ ms) one e several = false≢true one

-- ---- one field more

last-append : {A : Type 0} (o : Option A) (xs : List A) (q : Option A) → last_or o (xs ++ cons_option q []) ≡ option_or q (last_or o xs)
last-append o [] None = refl
last-append o [] (Some y) = refl
last-append o (x ∷ xs) q = last-append (Some x) xs q

-- the last item, where it was taken off the others
pub last-popped : {A : Type 0} (xs ys : List A) (r : Option A) → xs ≡ ys ++ option_to_list r → (0 < length xs → IsSome r) → last_or None xs ≡ r
last-popped xs ys (Some x) is has = ap (last_or None) is ∙ last-append None ys (Some x)
last-popped [] ys None is has = refl
last-popped (x ∷ xs) ys None is has = absurd (false≢true (has (omega arith)))

pub last-mapped : {A B : Type 0} (u : A → B) (o : Option A) (xs : List A) → last_or (option_map u o) (map u xs) ≡ option_map u (last_or o xs)
last-mapped u o [] = refl
last-mapped u o (x ∷ xs) = last-mapped u (Some x) xs

-- one that is no map, and one that is
pub fields_more : (fs : List TypedOf) (f : TypedOf) (o : Option FlattenedMapOf) → map_from f ≡ o →
    (beside_from true (fs ++ f ∷ [])).flattened ≡ (beside_from true fs).flattened ++ map field_from (cond (not (is_some o)) (f ∷ []) [])
fields_more fs f o is =
    ap (map field_from) (filter-append (λ g. not (is_map g)) fs (f ∷ []))
    ∙ map-append field_from (filter (λ g. not (is_map g)) fs) (filter (λ g. not (is_map g)) (f ∷ []))
    ∙ ap (λ p. (beside_from true fs).flattened ++ map field_from (cond (not (is_some p)) (f ∷ []) [])) is

pub maps_more : (fs : List TypedOf) (f : TypedOf) (o : Option FlattenedMapOf) → map_from f ≡ o → filter_map map_from (fs ++ f ∷ []) ≡ filter_map map_from fs ++ cons_option o []
maps_more fs f o is = filter_map-append map_from fs (f ∷ []) ∙ ap (λ p. filter_map map_from fs ++ cons_option p []) is

-- where a map stands behind the only one before it there are several
pub several : {I : Type 0} (u : I → TypedOf) (items : List I) (i : ℕ) (item : I) (first : TypedOf) (x : Ident) (e : DeriveError) → i < length items → item ≡ get_or items i item → is_map (u item) ≡ true →
    maps_among (map u (take i items)) ≡ first ∷ [] → IsSecondMap x first.field (u item).field e → AreSeveralMaps x (maps_among (map u items)) e
several u items i item first x e l is holds before second = subst (λ ts. AreSeveralMaps x ts e) (sym split) second
  where
    behind : List TypedOf
    behind = map u (drop (suc i) items)

    whole : items ≡ take i items ++ item ∷ drop (suc i) items
    whole = sym (take-append-drop i items) ∙ ap (λ ys. take i items ++ ys) (drop-cons items i item l) ∙ ap (λ y. take i items ++ y ∷ drop (suc i) items) (sym is)

    split : maps_among (map u items) ≡ first ∷ u item ∷ maps_among behind
    split =
        ap (λ xs. maps_among (map u xs)) whole
        ∙ ap maps_among (map-append u (take i items) (item ∷ drop (suc i) items))
        ∙ filter-append is_map (map u (take i items)) (u item ∷ behind)
        ∙ (λ k. before k ++ cond (holds k) (u item ∷ maps_among behind) (maps_among behind))

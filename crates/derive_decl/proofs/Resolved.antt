-- What has no fault is resolved to something.
use Rattle.std.proofs.Common.{ℕ, List, [], ◌∷◌, ◌++◌, codes, Bool, true, false, not, cond, Option, Some, None, is_none, is_ok, Ok, option_map, option_and_then, ◌≡◌, ◌⊎◌, ◌∙◌, refl, ap, subst, inl, inr}
use Rattle.std.specs.List.{AllByRecursion, list_all}
use Rattle.std.proofs.lemmas.Bool.{false≢true, and_from}
use Rattle.diag.specs.Diagnostics.{diagnostic, with_suggestion}
use Rattle.diag.specs.Refusal.{RefusesNone}
use Rattle.diag.specs.declared.error.DeriveError.{DeriveError}
use Rattle.diag.specs.declared.error.DeriveError.TheVariants.{Refused}
use Rattle.diag.specs.declared.kind.Kind.{Kind}
use Rattle.diag.specs.declared.kind.Kind.TheVariants.{Syntax, MissingRow, Arity, SerdeTag, DuplicateName, TaggedTuple, UnknownType, BadArgument, TypeSize}
use Rattle.diag.specs.declared.suggestion.Suggestion.TheVariants.{Help}
use Rattle.diag.specs.declared.rename_rule.RenameRule.{RenameRule}
use Rattle.diag.specs.declared.rename_row.RenameRow.{RenameRow}
use Rattle.diag.specs.declared.rename_row.RenamePlace.{RenamePlace}
use Rattle.diag.specs.declared.rename_row.RenamePlace.TheVariants.{Field, Variant}
use Rattle.texts.specs.declared.span.Span.{Span}
use Rattle.texts.specs.Names.{IsDistinct}
use Rattle.written_types.specs.declared.written.Ident.{Ident}
use Rattle.attributes.specs.Attributes.{AttributeItem, serde_items}
use Rattle.attributes.specs.declared.serde_item.SerdeItem.{SerdeItem}
use Rattle.serde_rules.specs.declared.value.SerdeValue.{SerdeValue}
use Rattle.serde_rules.specs.declared.container.SerdeContainer.{SerdeContainer}
use Rattle.serde_rules.specs.declared.enum_repr.SerdeEnumRepr.{SerdeEnumRepr}
use Rattle.serde_rules.specs.declared.enum_repr.SerdeEnumRepr.TheVariants as serde
use Rattle.serde_rules.specs.Container.{representation, rename_rule, names_known_rule, AreContainerRules, IsContainerRefusal}
use Rattle.serde_rules.specs.Names.{new_name}
use Rattle.syntax.specs.Items.{FieldItem, FieldItems, named, unnamed, unit, VariantItem, BodyItem, struct_body, enum_body, DeclaredItem}
use Rattle.syntax.specs.Named.{HasName, HaveNames, IsNamedBody, AreNamed}
use Rattle.resolving.specs.Resolved.{resolved_type, Fault, unknown_type, wrong_arity, bad_argument, too_large, IsRefusedFor, ResolutionIsExact}
use Rattle.scopes.specs.Names.{texts, are_distinct, duplicate_message, Repeats, IsGivenTwice}
use Rattle.scopes.specs.Parameters.{parameters_of}
use Rattle.scopes.specs.declared.parameters.ParameterKind.TheVariants.{TypesAndConstants}
use Rattle.shapes.specs.Declarations.{FormOf, named_fields, unnamed_fields, no_fields, BodyOf, fields, units, variants, member_names, variant_names, telling}
use Rattle.shapes.specs.declared.tagging.Tagging.{Tagging}
use Rattle.shapes.specs.declared.tagging.Tagging.TheVariants.{External, Internal, Adjacent, Untagged}
use Rattle.derive_decl.specs.declared.feature.Other.{Other}
use Rattle.derive_decl.specs.Attributed.{attributes_with, first_other}
use Rattle.serde_names.specs.Kept.{value_of, own, is_own, flattened, is_kept_variant, kept_variants, value_of_variant}
use Rattle.serde_names.specs.Names.{or_as_it_was, name_by, row_message, IsUnwritten}
use Rattle.derive_decl.specs.Fields.{FieldRules, field_rules, are_allowed, written_idents}
use Rattle.derive_decl.specs.Lifetimes.{lifetimes_of}
use Rattle.derive_decl.specs.Tags.{can_be_tagged, tag_is_taken, tag_stands, tag_of, tuple_message, tuple_help, IsMisplacedTag}
use Rattle.derive_decl.specs.Variants.{tagging_by, tagging_in, are_units, are_told, variant_name, telling_idents}
use Rattle.derive_decl.specs.Resolved.{Around, around_of, all_of, member_from, member_as, member_of, members_are_distinct, members_of, typed_of, has_one_map, flattened_fields, beside_from, named_form, form_of, variant_from, variant_of, variants_are_told, units_of, mixed_of, enum_of, enum_by, plain_body, mixed_body, body_of, derived_body, declaration_from, declaration_of, resolved_of}
use Rattle.derive_decl.specs.Faults.{fieldless_message, tagless_message, IsFaultyType, IsFaultyMember, AreFaultyMembers, AreFaultyFlattened, AreFaultyFields, IsFaultyTagging, IsUnnamed, AreUnnamed, IsFaultyVariant, AreFaultyVariants, IsFaultyBy, IsFaultyPlain, IsFaultyEnum, IsFaultyBody, IsFaultyDeclaration, IsFaultyItem, AreFaultyItems}
use Rattle.configuration.specs.Configuration.{Configuration}
use Rattle.derive_decl.specs.Whole.{resolved_among, resolved_declarations}
use Rattle.derive_decl.proofs.EnumLaws.{unnamed-faulty}
use Rattle.derive_decl.proofs.NamedForms.{one_given}
use Rattle.derive_decl.proofs.Parts.{member_texts, variants_named, telling_texts}
use Rattle.derive_decl.proofs.Values.{some_is, passes, are_distinct_from, all_given, all_kept, all_any}

-- the laws of names and of serde's items
abbrev pub NamesDecided : Type 0
NamesDecided = (xs : List Ident) → IsDistinct (texts xs) ⊎ ((x : Ident) × Repeats xs x)

abbrev pub RulesDecided : Type 0
RulesDecided = (items : List SerdeItem) → ((rules : SerdeContainer) × AreContainerRules items rules) ⊎ ((e : DeriveError) × IsContainerRefusal items e)

-- a value that is there
abbrev Given : {A : Type 0} → Option A → Type 0
Given {A} o = (x : A) × (o ≡ Some x)

-- an error of a kind, and one for each fault
abbrev refusal : Kind → Span → List ℕ → DeriveError
refusal kind span message = Refused (diagnostic kind span message ∷ [])

refusal_for : (fault : Fault) → (e : DeriveError) × IsRefusedFor fault e
refusal_for (unknown_type x) = (refusal UnknownType x.span (codes "unknown type " ++ x.text), refl)
refusal_for (wrong_arity x) = (refusal Arity x.span (codes "wrong number of type arguments for " ++ x.text), refl)
refusal_for (bad_argument x) = (refusal BadArgument x.span (codes "tuples, arrays and slices cannot be generic arguments"), refl)
refusal_for (too_large s) = (refusal TypeSize s (codes "a type has more than 256 names"), refl)

-- ---- names

unruled : (text : List ℕ) (place : RenamePlace) (rows : List RenameRow) (given : Option (List ℕ)) → Given (or_as_it_was text (new_name place rows text given None))
unruled text place rows None = (text, refl)
unruled text place rows (Some []) = (text, refl)
unruled text place rows (Some (b ∷ bs)) = (b ∷ bs, refl)

name_given : (place : RenamePlace) (rows : List RenameRow) (rule : Option RenameRule) (value : SerdeValue) (x : Ident) → RefusesNone (IsUnwritten place rows rule value x) → Given (name_by place rows rule value x)
name_given place rows None value x none = unruled x.text place rows value.rename
name_given place rows (Some rule) value x none = by (name_by place rows (Some rule) value x) refl
  where
    by : (o : Option (List ℕ)) → name_by place rows (Some rule) value x ≡ o → Given (name_by place rows (Some rule) value x)
    by (Some name) is = (name, is)
    by None is = absurd (none (refusal MissingRow x.span (row_message rule x.text)) (is, refl))

variant_name_given : (rows : List RenameRow) (rule : Option RenameRule) (tagging : Tagging) (v : VariantItem) → RefusesNone (IsUnnamed rows rule tagging v) → Given (variant_name rows rule tagging v)
variant_name_given rows rule Untagged v none = (v.ident.text, refl)
variant_name_given rows rule External v none = name_given Variant rows rule (value_of_variant v) v.ident none
variant_name_given rows rule (Internal tag) v none = name_given Variant rows rule (value_of_variant v) v.ident none
variant_name_given rows rule (Adjacent tag content) v none = name_given Variant rows rule (value_of_variant v) v.ident none

-- ---- tags

taken_tag : (tagging : Tagging) (form : FormOf) → tag_is_taken tagging form ≡ true → (tag : List ℕ) × (tag_of tagging ≡ Some tag)
taken_tag External form e = absurd (false≢true e)
taken_tag (Internal tag) form e = (tag, refl)
taken_tag (Adjacent tag content) form e = (tag, refl)
taken_tag Untagged form e = absurd (false≢true e)

tag_given : (tagging : Tagging) (v : VariantItem) (form : FormOf) → RefusesNone (IsMisplacedTag tagging v form) → tag_stands tagging form ≡ true
tag_given tagging v form none = and_from (can_be_tagged tagging form) (not (tag_is_taken tagging form)) (can (can_be_tagged tagging form) refl) (free (tag_is_taken tagging form) refl)
  where
    can : (b : Bool) → can_be_tagged tagging form ≡ b → b ≡ true
    can true is = refl
    can false is = absurd (none (Refused (with_suggestion (Help tuple_help) (diagnostic TaggedTuple v.span tuple_message ∷ []))) (inl (is, refl)))

    free : (b : Bool) → tag_is_taken tagging form ≡ b → not b ≡ true
    free true is =
        let tag = taken_tag tagging form is in absurd (none (refusal DuplicateName v.ident.span (duplicate_message tag.0)) (inr (is, (tag.0, tag.1, refl))))
    free false is = refl

module _ (exact : ResolutionIsExact) (decided : NamesDecided) (rules_decided : RulesDecided) where
  -- names that are not given twice differ
  differ : (xs : List Ident) (names : List (List ℕ)) → texts xs ≡ names → RefusesNone (IsGivenTwice xs) → are_distinct names ≡ true
  differ xs names is none = elim (decided xs) [
    | inl distinct ↦ are_distinct_from names (subst IsDistinct is distinct)
    | inr (x, repeats) ↦ absurd (none (refusal DuplicateName x.span (duplicate_message x.text)) (x, repeats, refl))
  ]

  -- items that are not refused say rules
  items_say : (items : List SerdeItem) → RefusesNone (IsContainerRefusal items) → are_allowed items ≡ true
  items_say items none = elim (rules_decided items) [
    | inl (rules, are) ↦ and_from (is_ok (representation items)) (list_all names_known_rule items) (ap is_ok are.enum_repr) are.known
    | inr (e, refused) ↦ absurd (none e refused)
  ]

  -- ---- fields

  type_given : (around : Around) (f : FieldItem) → RefusesNone (IsFaultyType around f) → Given (resolved_type around.known f.ty)
  type_given around f none = some_is (resolved_type around.known f.ty) ((exact around.known f.ty).1 (λ fault holds. let e = refusal_for fault in none e.0 (fault, holds, e.1)))

  member_given : (around : Around) (rules : FieldRules) (f : FieldItem) → HasName f → RefusesNone (IsFaultyMember around rules f) → Given (member_of around rules f)
  member_given around rules f has none =
      let x = some_is f.ident has in
      let name = name_given Field around.rows rules.rule (value_of f) x.0 (λ e unwritten. none e (inr (x.0, x.1, unwritten))) in
      let of = type_given around f (λ e fault. none e (inl fault)) in (
        member_from rules f name.0 of.0,
        ap (member_as around rules f) x.1 ∙ (λ i. option_and_then (λ n. option_map (member_from rules f n) (of.1 i)) (name.1 i)),
      )

  members_given : (around : Around) (rules : FieldRules) (fs : List FieldItem) → AllByRecursion HasName fs → RefusesNone (AreFaultyMembers around rules fs) → Given (members_of around rules fs)
  members_given around rules fs have none =
      let all = all_given (member_of around rules) (IsFaultyMember around rules) HasName (member_given around rules) (own fs) (all_kept HasName is_own fs have) (λ e h. none e (inl h)) in
      let apart = differ (written_idents around.rows rules.rule (own fs)) (member_names all.0) (member_texts around rules (own fs) all.0 all.1) (λ e twice. none e (inr twice)) in
      (all.0, passes members_are_distinct (all_of (member_of around rules) (own fs)) all.0 all.1 apart)

  typed_given : (around : Around) (f : FieldItem) → RefusesNone (IsFaultyType around f) → Given (typed_of around f)
  typed_given around f none = let of = type_given around f none in (record { field = f; of = of.0 }, ap (option_map (λ t. record { field = f; of = t })) of.1)

  flattened_given : (around : Around) (x : Ident) (fs : List FieldItem) → RefusesNone (AreFaultyFlattened around x fs) → Given (flattened_fields around fs)
  flattened_given around x fs none =
      let all = all_given (typed_of around) (IsFaultyType around) (λ f. Unit {0}) (λ f any. typed_given around f) (flattened fs) (all_any (flattened fs)) (λ e h. none e (inl h)) in
      (all.0, passes has_one_map (all_of (typed_of around) (flattened fs)) all.0 all.1 (one_given x all.0 (λ e several. none e (inr (all.0, all.1, several)))))

  named_given : (around : Around) (rules : FieldRules) (x : Ident) (fs : List FieldItem) → AllByRecursion HasName fs → RefusesNone (AreFaultyMembers around rules fs) → RefusesNone (AreFaultyFlattened around x fs)
      → Given (named_form around rules fs)
  named_given around rules x fs have none clear =
      let beside = flattened_given around x fs clear in
      let ms = members_given around rules fs have none in
      (named_fields (beside_from rules.denies beside.0) ms.0, λ i. option_and_then (λ ts. option_map (named_fields (beside_from rules.denies ts)) (ms.1 i)) (beside.1 i))

  pub form_given : (around : Around) (items : List SerdeItem) (x : Ident) (fs : FieldItems) → HaveNames fs → RefusesNone (AreFaultyFields around items x fs) → Given (form_of around items fs)
  form_given around items x (named fs) have none =
      let form = named_given around (field_rules items) x fs have (λ e fault. none e (inr (inl fault))) (λ e fault. none e (inr (inr fault))) in
      (form.0, ap (λ b. cond b (named_form around (field_rules items) fs) None) (items_say items (λ e refused. none e (inl refused))) ∙ form.1)
  form_given around items x (unnamed []) have none = absurd (none (refusal Arity x.span fieldless_message) (inr (refl, refl)))
  form_given around items x (unnamed (f ∷ fs)) have none =
      let all = all_given (λ (g : FieldItem). resolved_type around.known g.ty) (IsFaultyType around) (λ g. Unit {0}) (λ g any. type_given around g) (f ∷ fs) (all_any (f ∷ fs)) (λ e h. none e (inl h)) in
      (unnamed_fields all.0, ap (option_map unnamed_fields) all.1)
  form_given around items x unit have none = (no_fields, refl)

  -- ---- variants

  variant_given : (around : Around) (rule : Option RenameRule) (tagging : Tagging) (v : VariantItem) → HaveNames v.fields → RefusesNone (IsFaultyVariant around rule tagging v) → Given (variant_of around rule tagging v)
  variant_given around rule tagging v have none =
      let name = variant_name_given around.rows rule tagging v (λ e nameless. none e (inl nameless)) in
      let form = form_given around (serde_items v.attrs) v.ident v.fields have (λ e fault. none e (inr (inl fault))) in
      let tag = tag_given tagging v form.0 (λ e misplaced. none e (inr (inr (form.0, form.1, misplaced)))) in
      let tagged = passes (tag_stands tagging) (form_of around (serde_items v.attrs) v.fields) form.0 form.1 tag in
      (variant_from v name.0 form.0, λ i. option_and_then (λ n. option_map (variant_from v n) (tagged i)) (name.1 i))

  told : (rows : List RenameRow) (rule : Option RenameRule) (tagging : Tagging) (vs : List VariantItem) (names : List (List ℕ)) → all_of (variant_name rows rule tagging) vs ≡ Some names → RefusesNone (IsGivenTwice (telling_idents rows rule tagging vs)) →
      are_told tagging names ≡ true
  told rows rule tagging vs names is none = differ (telling_idents rows rule tagging vs) (telling tagging names) (telling_texts rows rule tagging vs names is) none

  pub units_given : (around : Around) (rule : Option RenameRule) (vs : List VariantItem) (tagging : Tagging) → RefusesNone (AreUnnamed around.rows rule tagging vs) → Given (units_of around rule vs tagging)
  units_given around rule vs tagging none =
      let all = all_given (variant_name around.rows rule tagging) (IsUnnamed around.rows rule tagging) (λ v. Unit {0}) (λ v any. variant_name_given around.rows rule tagging v) (kept_variants vs) (all_any (kept_variants vs)) (λ e h. none e (inl h)) in
      let apart = told around.rows rule tagging (kept_variants vs) all.0 all.1 (λ e twice. none e (inr twice)) in
      (units tagging all.0, ap (option_map (units tagging)) (passes (are_told tagging) (all_of (variant_name around.rows rule tagging) (kept_variants vs)) all.0 all.1 apart))

  pub mixed_given : (around : Around) (rule : Option RenameRule) (vs : List VariantItem) (tagging : Tagging) → AllByRecursion (λ v. HaveNames v.fields) vs → RefusesNone (AreFaultyVariants around rule tagging vs) → Given (mixed_of around rule vs tagging)
  mixed_given around rule vs tagging have none =
      let all = all_given (variant_of around rule tagging) (IsFaultyVariant around rule tagging) (λ v. HaveNames v.fields) (variant_given around rule tagging) (kept_variants vs) (all_kept (λ v. HaveNames v.fields) is_kept_variant vs have) (λ e h. none e (inl h)) in
      let apart = told around.rows rule tagging (kept_variants vs) (variant_names all.0) (variants_named around rule tagging (kept_variants vs) all.0 all.1) (λ e twice. none e (inr twice)) in
      (variants tagging all.0, ap (option_map (variants tagging)) (passes (variants_are_told tagging) (all_of (variant_of around rule tagging) (kept_variants vs)) all.0 all.1 apart))

  enum_given : (around : Around) (rule : Option RenameRule) (vs : List VariantItem) (tagging : Tagging) → AllByRecursion (λ v. HaveNames v.fields) vs → RefusesNone (AreFaultyVariants around rule tagging vs) → Given (enum_of around rule vs tagging)
  enum_given around rule vs tagging have none = by (are_units vs) (units_given around rule vs tagging (λ e fault. none e (unnamed-faulty around rule tagging e vs fault))) (mixed_given around rule vs tagging have none)
    where
      by : (b : Bool) → Given (units_of around rule vs tagging) → Given (mixed_of around rule vs tagging) → Given (cond b (units_of around rule vs tagging) (mixed_of around rule vs tagging))
      by true all one = all
      by false all one = one

  tagging_given : (items : List SerdeItem) (x : Ident) → RefusesNone (IsFaultyTagging items x) → Given (tagging_in items)
  tagging_given items x none = elim (rules_decided items) [
    | inl (rules, are) ↦ by rules.enum_repr are.enum_repr
    | inr (e, refused) ↦ absurd (none e (inl refused))
  ]
    where
      by : (repr : SerdeEnumRepr) → representation items ≡ Ok repr → Given (tagging_in items)
      by serde.ExternallyTagged is = (External, ap tagging_by is)
      by (serde.InternallyTagged tag) is = (Internal tag, ap tagging_by is)
      by (serde.AdjacentlyTagged tag content) is = (Adjacent tag content, ap tagging_by is)
      by serde.Untagged is = (Untagged, ap tagging_by is)
      by (serde.UnfinishedAdjacentlyTagged content) is =
          absurd (none (refusal SerdeTag x.span tagless_message) (inr (content, is, (λ e refused. none e (inl refused)), refl)))

  enum_by_given : (items : List SerdeItem) (x : Ident) (of : Option RenameRule → Tagging → Option BodyOf) (faulty : Option RenameRule → Tagging → DeriveError → Type 0) →
      ((tagging : Tagging) → RefusesNone (faulty (rename_rule items) tagging) → Given (of (rename_rule items) tagging)) → RefusesNone (IsFaultyBy items x faulty) → Given (enum_by items of)
  enum_by_given items x of faulty given none =
      let tagging = tagging_given items x (λ e fault. none e (inl fault)) in
      let body = given tagging.0 (λ e fault. none e (inr (tagging.0, tagging.1, fault))) in (
        body.0,
        ap (λ b. cond b (option_and_then (of (rename_rule items)) (tagging_in items)) None) (items_say items (λ e refused. none e (inl (inl refused)))) ∙ ap (option_and_then (of (rename_rule items))) tagging.1 ∙ body.1,
      )

  pub plain_given : (around : Around) (items : List SerdeItem) (x : Ident) (vs : List VariantItem) → RefusesNone (IsFaultyPlain around items x vs) → Given (plain_body around items vs)
  plain_given around items x vs none =
      enum_by_given items x (λ rule. units_of around rule vs) (λ rule tagging e. AreUnnamed around.rows rule tagging vs e) (λ tagging. units_given around (rename_rule items) vs tagging) none

  pub mixed_by_given : (around : Around) (items : List SerdeItem) (x : Ident) (vs : List VariantItem) → AllByRecursion (λ v. HaveNames v.fields) vs → RefusesNone (IsFaultyEnum around items x vs) → Given (mixed_body around items vs)
  mixed_by_given around items x vs have none =
      enum_by_given items x (λ rule. mixed_of around rule vs) (λ rule tagging e. AreFaultyVariants around rule tagging vs e) (λ tagging none. mixed_given around (rename_rule items) vs tagging have none) none

  -- ---- declarations

  pub body_given : (around : Around) (items : List SerdeItem) (x : Ident) (body : BodyItem) → IsNamedBody body → RefusesNone (IsFaultyBody around items x body) → Given (body_of around items body)
  body_given around items x (struct_body fs) have none = let form = form_given around items x fs have none in (fields form.0, ap (option_map fields) form.1)
  body_given around items x (enum_body vs) have none =
      enum_by_given items x (λ rule. enum_of around rule vs) (λ rule tagging e. AreFaultyVariants around rule tagging vs e) (λ tagging none. enum_given around (rename_rule items) vs tagging have none) none

  pub derived_given : (around : Around) (attributes : List AttributeItem) (x : Ident) (body : BodyItem) → IsNamedBody body → RefusesNone (IsFaultyDeclaration around attributes x body) → Given (derived_body around attributes body)
  derived_given around attributes x body have none = by (first_other (attributes_with attributes body)) refl
    where
      by : (o : Option Other) → first_other (attributes_with attributes body) ≡ o → Given (derived_body around attributes body)
      by (Some other) at = absurd (none (refusal Syntax other.span (codes "unexpected text in a declaration")) (inl (other, at, refl)))
      by None at =
          let of = body_given around (serde_items attributes) x body have (λ e fault. none e (inr (at, fault))) in
          (of.0, ap (λ b. cond b (body_of around (serde_items attributes) body) None) (ap is_none at) ∙ of.1)

  pub item_given : (around : Around) (d : DeclaredItem) → IsNamedBody d.body → RefusesNone (IsFaultyItem around d) → Given (resolved_of around d)
  item_given around d have none =
      let names = and_from (are_distinct (texts (parameters_of TypesAndConstants d.generics))) (are_distinct (texts (lifetimes_of d.generics)))
      (differ (parameters_of TypesAndConstants d.generics) _ refl (λ e twice. none e (inl (inl twice))))
      (differ (lifetimes_of d.generics) _ refl (λ e twice. none e (inl (inr twice)))) in
      let of = derived_given around d.attrs d.ident d.body have (λ e fault. none e (inr fault)) in
      (declaration_from around d.attrs d.ident of.0, ap (λ b. cond b (declaration_of around d.attrs d.ident d.body) None) names ∙ ap (option_map (declaration_from around d.attrs d.ident)) of.1)

  pub declarations_given : (c : Configuration) (ds : List DeclaredItem) → AreNamed ds → RefusesNone (AreFaultyItems c ds) → Given (resolved_declarations c ds)
  declarations_given c ds have none =
      all_given (resolved_among c ds) (λ d e. IsFaultyItem (around_of c ds d.ident.text d.generics) d e) (λ d. IsNamedBody d.body) (λ d. item_given (around_of c ds d.ident.text d.generics) d) ds have none

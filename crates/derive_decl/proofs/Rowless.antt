-- What is refused for a missing row is refused for a name that has none, and each of these is refused.
use Rattle.std.proofs.Common.{ℕ, List, [], ◌∷◌, ◌++◌, cond, Option, Some, None, IsSomeAnd, Result, Ok, Err, ◌≡◌, ◌⊎◌, refl, ap, sym, ◌∙◌, inl, inr, subst}
use Rattle.std.specs.List.{flat_map}
use Rattle.diag.specs.Refusal.{IsRefusal, IsHelpRefusal}
use Rattle.diag.specs.declared.diagnostics.DiangosticsInner.{DiangosticsInner}
use Rattle.diag.specs.declared.error.DeriveError.{DeriveError}
use Rattle.diag.specs.declared.error.DeriveError.TheVariants.{Refused, Memory}
use Rattle.diag.specs.declared.kind.Kind.{Kind}
use Rattle.diag.specs.declared.kind.Kind.TheVariants.{Syntax, MissingRow, SerdeTag, BadValue, UnknownType, Arity, TypeSize, DuplicateName, TaggedTuple, BadArgument, FlattenedMaps}
use Rattle.diag.specs.declared.rename_rule.RenameRule.{RenameRule}
use Rattle.diag.specs.declared.rename_row.RenamePlace.{RenamePlace}
use Rattle.diag.specs.declared.rename_row.RenamePlace.TheVariants.{Field, Variant}
use Rattle.diag.specs.RenameRows.{row_to}
use Rattle.texts.specs.declared.span.Span.{Span}
use Rattle.texts.specs.Lists.{Somewhere}
use Rattle.written_types.specs.declared.written.Ident.{Ident}
use Rattle.attributes.specs.Attributes.{serde_items}
use Rattle.attributes.specs.declared.serde_item.SerdeItem.{SerdeItem}
use Rattle.attributes.specs.declared.serde_item.SerdeText.{SerdeText}
use Rattle.serde_rules.specs.declared.value.SerdeValue.{SerdeValue}
use Rattle.serde_rules.specs.declared.enum_repr.SerdeEnumRepr.{SerdeEnumRepr}
use Rattle.serde_rules.specs.declared.enum_repr.SerdeEnumRepr.TheVariants as serde
use Rattle.serde_rules.specs.Container.{TagFault, representation, rename_rule, rule_named, unknown_rule, with_item, IsTagRefusal, IsContainerRefusal}
use Rattle.serde_rules.specs.Names.{by_row, new_name}
use Rattle.syntax.specs.Items.{FieldItem, FieldItems, named, unnamed, unit, VariantItem, BodyItem, struct_body, enum_body, DeclaredItem}
use Rattle.resolving.specs.Resolved.{Fault, unknown_type, wrong_arity, too_large, IsRefusedFor, bad_argument}
use Rattle.scopes.specs.Names.{IsGivenTwice}
use Rattle.shapes.specs.Declarations.{FormOf}
use Rattle.shapes.specs.declared.tagging.Tagging.{Tagging}
use Rattle.shapes.specs.declared.tagging.Tagging.TheVariants.{External, Internal, Adjacent, Untagged}
use Rattle.serde_names.specs.declared.asked.Asked.{Asked}
use Rattle.serde_names.specs.Asked.{is_given, asked_for, asked_as, asked_of_field, asked_of_fields, asked_of_variant, asked_of_variants, asked_told, asked_of_body, asked_of_item, IsRowless}
use Rattle.serde_names.specs.Kept.{value_of, own, flattened, value_of_variant, kept_variants}
use Rattle.serde_names.specs.Names.{or_as_it_was, row_message, IsUnwritten}
use Rattle.derive_decl.specs.Fields.{FieldRules, field_rules}
use Rattle.derive_decl.specs.Variants.{tagging_by}
use Rattle.derive_decl.specs.Resolved.{Around, around_of, TypedOf, maps_among}
use Rattle.derive_decl.specs.Tags.{IsMisplacedTag}
use Rattle.derive_decl.specs.Faults.{IsFaultyType, IsFaultyName, IsFaultyMember, IsSecondMap, AreSeveralMaps, AreFaultyFields, IsFaultyTagging, IsUnnamed, IsFaultyTag, IsFaultyVariant, AreFaultyVariants, IsFaultyEnum, IsFaultyBody, IsFaultyItem}
use Rattle.derive_decl.specs.Law.{IsMissingRow, IsRowlessDerived, ItemsLookUpRows, DeclarationsLookUpRows}

-- ---- lists of which some item has a fact

module _ {A : Type 0} (P : A → Type 0) where
  somewhere_front : (xs ys : List A) → Somewhere P xs → Somewhere P (xs ++ ys)
  somewhere_front [] ys some = absurd some
  somewhere_front (x ∷ xs) ys (inl p) = inl p
  somewhere_front (x ∷ xs) ys (inr some) = inr (somewhere_front xs ys some)

  somewhere_back : (xs ys : List A) → Somewhere P ys → Somewhere P (xs ++ ys)
  somewhere_back [] ys some = some
  somewhere_back (x ∷ xs) ys some = inr (somewhere_back xs ys some)

  somewhere_parts : (xs ys : List A) → Somewhere P (xs ++ ys) → Somewhere P xs ⊎ Somewhere P ys
  somewhere_parts [] ys some = inr some
  somewhere_parts (x ∷ xs) ys (inl p) = inl (inl p)
  somewhere_parts (x ∷ xs) ys (inr some) = elim (somewhere_parts xs ys some) [ inl front ↦ inl (inr front) | inr back ↦ inr back ]

  somewhere_weaker : (Q : A → Type 0) (xs : List A) → ((x : A) → P x → Q x) → Somewhere P xs → Somewhere Q xs
  somewhere_weaker Q [] h some = some
  somewhere_weaker Q (x ∷ xs) h (inl p) = inl (h x p)
  somewhere_weaker Q (x ∷ xs) h (inr some) = inr (somewhere_weaker Q xs h some)

  -- what follows of each item follows of one of them
  somewhere_gives : (G : Type 0) (xs : List A) → ((x : A) → P x → G) → Somewhere P xs → G
  somewhere_gives G [] h some = absurd some
  somewhere_gives G (x ∷ xs) h (inl p) = h x p
  somewhere_gives G (x ∷ xs) h (inr some) = somewhere_gives G xs h some

module _ {A B : Type 0} (P : B → Type 0) (R : A → Type 0) (f : A → List B) where
  gathered : (xs : List A) → ((x : A) → R x → Somewhere P (f x)) → Somewhere R xs → Somewhere P (flat_map f xs)
  gathered [] h some = some
  gathered (x ∷ xs) h (inl r) = somewhere_front P (f x) (flat_map f xs) (h x r)
  gathered (x ∷ xs) h (inr some) = somewhere_back P (f x) (flat_map f xs) (gathered xs h some)

  scattered : (xs : List A) → ((x : A) → Somewhere P (f x) → R x) → Somewhere P (flat_map f xs) → Somewhere R xs
  scattered [] h some = some
  scattered (x ∷ xs) h some = elim (somewhere_parts P (f x) (flat_map f xs) some) [ inl front ↦ inl (h x front) | inr back ↦ inr (scattered xs h back) ]

-- ---- names

as_row-is : (text : List ℕ) (o : Option (List ℕ)) → or_as_it_was text (by_row o) ≡ o
as_row-is text None = refl
as_row-is text (Some to) = refl

-- the rule of the names of variants
abbrev told_rule : Tagging → Option RenameRule → Option RenameRule
told_rule External rule = rule
told_rule (Internal tag) rule = rule
told_rule (Adjacent tag content) rule = rule
told_rule Untagged rule = None

module _ (around : Around) (e : DeriveError) where
  -- the error refuses one of the names, since it has no row
  abbrev Rowless : List Asked → Type 0
  Rowless names = Somewhere (λ a. IsRowless around.rows a e) names

  -- ---- each name that has no row is refused

  name_missed : (place : RenamePlace) (rule : RenameRule) (x : Ident) (given : Option (List ℕ)) → Rowless (cond (is_given given) [] (record { rule = rule; place = place; ident = x } ∷ []))
      → (or_as_it_was x.text (new_name place around.rows x.text given (Some rule)) ≡ None) × IsRefusal MissingRow x.span (row_message rule x.text) e
  name_missed place rule x None (inl rowless) = (as_row-is x.text (row_to rule place x.text around.rows) ∙ rowless.0, rowless.1)
  name_missed place rule x None (inr more) = absurd more
  name_missed place rule x (Some []) (inl rowless) = (as_row-is x.text (row_to rule place x.text around.rows) ∙ rowless.0, rowless.1)
  name_missed place rule x (Some []) (inr more) = absurd more
  name_missed place rule x (Some (b ∷ bs)) rowless = absurd rowless

  unwritten : (place : RenamePlace) (rule : Option RenameRule) (value : SerdeValue) (x : Ident) → Rowless (asked_for place rule value x) → IsUnwritten place around.rows rule value x e
  unwritten place None value x rowless = absurd rowless
  unwritten place (Some rule) value x rowless = name_missed place rule x value.rename rowless

  field_faulty : (rule : Option RenameRule) (f : FieldItem) (o : Option Ident) → f.ident ≡ o → Rowless (asked_as rule (value_of f) o) → IsFaultyName around.rows rule f e
  field_faulty rule f None is rowless = absurd rowless
  field_faulty rule f (Some x) is rowless = (x, is, unwritten Field rule (value_of f) x rowless)

  fields_faulty : (items : List SerdeItem) (x : Ident) (fs : FieldItems) → Rowless (asked_of_fields items fs) → AreFaultyFields around items x fs e
  fields_faulty items x (named fs) rowless =
      inr (inl (inl (scattered (λ a. IsRowless around.rows a e) (λ f. IsFaultyMember around (field_rules items) f e) (asked_of_field (rename_rule items)) (own fs)
      (λ f own. inr (field_faulty (rename_rule items) f f.ident refl own)) rowless)))
  fields_faulty items x (unnamed fs) rowless = absurd rowless
  fields_faulty items x unit rowless = absurd rowless

  variant_unnamed : (rule : Option RenameRule) (tagging : Tagging) (v : VariantItem) → Rowless (asked_for Variant (told_rule tagging rule) (value_of_variant v) v.ident) → IsUnnamed around.rows rule tagging v e
  variant_unnamed rule External v rowless = unwritten Variant rule (value_of_variant v) v.ident rowless
  variant_unnamed rule (Internal tag) v rowless = unwritten Variant rule (value_of_variant v) v.ident rowless
  variant_unnamed rule (Adjacent tag content) v rowless = unwritten Variant rule (value_of_variant v) v.ident rowless
  variant_unnamed rule Untagged v rowless = absurd rowless

  variant_faulty : (rule : Option RenameRule) (tagging : Tagging) (v : VariantItem) → Rowless (asked_of_variant (told_rule tagging rule) v) → IsFaultyVariant around rule tagging v e
  variant_faulty rule tagging v rowless =
      elim (somewhere_parts (λ a. IsRowless around.rows a e) (asked_for Variant (told_rule tagging rule) (value_of_variant v) v.ident) (asked_of_fields (serde_items v.attrs) v.fields) rowless) [
        | inl name ↦ inl (variant_unnamed rule tagging v name)
        | inr fields ↦ inr (inl (fields_faulty (serde_items v.attrs) v.ident v.fields fields))
      ]

  variants_faulty : (rule : Option RenameRule) (tagging : Tagging) (vs : List VariantItem) → Rowless (asked_of_variants (told_rule tagging rule) vs) → AreFaultyVariants around rule tagging vs e
  variants_faulty rule tagging vs rowless =
      inl (scattered (λ a. IsRowless around.rows a e) (λ v. IsFaultyVariant around rule tagging v e) (asked_of_variant (told_rule tagging rule)) (kept_variants vs) (variant_faulty rule tagging) rowless)

  enum_faulty : (items : List SerdeItem) (x : Ident) (vs : List VariantItem) (tagging : Tagging) → tagging_by (representation items) ≡ Some tagging
      → Rowless (asked_of_variants (told_rule tagging (rename_rule items)) vs) → IsFaultyEnum around items x vs e
  enum_faulty items x vs tagging is rowless = inr (tagging, is, variants_faulty (rename_rule items) tagging vs rowless)

  told_faulty : (items : List SerdeItem) (x : Ident) (vs : List VariantItem) (r : Result SerdeEnumRepr TagFault) → representation items ≡ r → Rowless (asked_told r (rename_rule items) vs) → IsFaultyEnum around items x vs e
  told_faulty items x vs (Ok serde.ExternallyTagged) is rowless = enum_faulty items x vs External (ap tagging_by is) rowless
  told_faulty items x vs (Ok (serde.InternallyTagged tag)) is rowless = enum_faulty items x vs (Internal tag) (ap tagging_by is) rowless
  told_faulty items x vs (Ok (serde.AdjacentlyTagged tag content)) is rowless = enum_faulty items x vs (Adjacent tag content) (ap tagging_by is) rowless
  told_faulty items x vs (Ok serde.Untagged) is rowless = enum_faulty items x vs Untagged (ap tagging_by is) rowless
  told_faulty items x vs (Ok (serde.UnfinishedAdjacentlyTagged content)) is rowless = absurd rowless
  told_faulty items x vs (Err why) is rowless = absurd rowless

  body_faulty : (items : List SerdeItem) (x : Ident) (body : BodyItem) → Rowless (asked_of_body items body) → IsFaultyBody around items x body e
  body_faulty items x (struct_body fs) rowless = fields_faulty items x fs rowless
  body_faulty items x (enum_body vs) rowless = told_faulty items x vs (representation items) refl rowless

  item_faulty : (d : DeclaredItem) → IsRowlessDerived around.rows d e → IsFaultyItem around d e
  item_faulty d rowless = inr (inr (rowless.0, body_faulty (serde_items d.attrs) d.ident d.body rowless.1))

  -- such an error is one for a missing row
  missing_row : (names : List Asked) → Rowless names → IsMissingRow e
  missing_row names rowless = somewhere_gives (λ a. IsRowless around.rows a e) (IsMissingRow e) names (λ a own. (a.ident.span, row_message a.rule a.ident.text, own.1)) rowless

-- ---- refusals of other kinds

kind_in : List DiangosticsInner → Kind
kind_in [] = Syntax
kind_in (entry ∷ entries) = entry.kind

clash : (k l : Kind) (s t : Span) (m n : List ℕ) (e : DeriveError) → IsRefusal k s m e → IsRefusal l t n e → k ≡ l
unfolding kind_in
clash k l s t m n (Refused d) one other = ap kind_in (sym one ∙ other)
clash k l s t m n Memory one other = absurd one

help_clash : (k l : Kind) (s t : Span) (m n h : List ℕ) (e : DeriveError) → IsHelpRefusal k s m h e → IsRefusal l t n e → k ≡ l
unfolding kind_in
help_clash k l s t m n h (Refused d) one other = ap kind_in (sym one ∙ other)
help_clash k l s t m n h Memory one other = absurd one

map_clash : (x : Ident) (first second : FieldItem) (t : Span) (n : List ℕ) (e : DeriveError) → IsSecondMap x first second e → IsRefusal MissingRow t n e → FlattenedMaps ≡ MissingRow
unfolding kind_in
map_clash x first second t n (Refused d) one other = ap kind_in (sym one ∙ other)
map_clash x first second t n Memory one other = absurd one

module _ (span : Span) (message : List ℕ) (e : DeriveError) (missing : IsRefusal MissingRow span message e) where
  other_kind : (k : Kind) (s : Span) (m : List ℕ) → (k ≡ MissingRow → ⊥) → IsRefusal k s m e → ⊥
  other_kind k s m apart refusal = apart (clash k MissingRow s span m message e refusal missing)

  no_tag_fault : (r : Result SerdeEnumRepr TagFault) → IsTagRefusal r e → ⊥
  no_tag_fault (Ok repr) refusal = refusal
  no_tag_fault (Err why) refusal = other_kind SerdeTag why.span why.message (λ same. cc) refusal

  no_second_map : (x : Ident) (ts : List TypedOf) → AreSeveralMaps x ts e → ⊥
  no_second_map x [] fault = fault
  no_second_map x (t ∷ []) fault = fault
  no_second_map x (t ∷ u ∷ ts) fault = let same = map_clash x t.field u.field span message e fault missing in cc

  no_rule_fault : (o : Option SerdeText) → IsSomeAnd o (λ literal. (rule_named literal.text ≡ None) × IsRefusal BadValue literal.span unknown_rule e) → ⊥
  no_rule_fault None refusal = refusal
  no_rule_fault (Some literal) refusal = other_kind BadValue literal.span unknown_rule (λ same. cc) refusal.1

  no_container_fault : (items : List SerdeItem) → IsContainerRefusal items e → ⊥
  no_container_fault items (before, item, behind, split, so_far, rules, inl tag) = no_tag_fault (with_item item so_far.enum_repr) tag
  no_container_fault items (before, item, behind, split, so_far, rules, inr rule) = no_rule_fault _ rule

  no_refusal_for : (fault : Fault) → IsRefusedFor fault e → ⊥
  no_refusal_for (unknown_type x) refusal = other_kind UnknownType _ _ (λ same. cc) refusal
  no_refusal_for (wrong_arity x) refusal = other_kind Arity _ _ (λ same. cc) refusal
  no_refusal_for (bad_argument x) refusal = other_kind BadArgument _ _ (λ same. cc) refusal
  no_refusal_for (too_large s) refusal = other_kind TypeSize _ _ (λ same. cc) refusal

  no_name_twice : (xs : List Ident) → IsGivenTwice xs e → ⊥
  no_name_twice xs (x, repeats, refusal) = other_kind DuplicateName _ _ (λ same. cc) refusal

  no_misplaced_tag : (tagging : Tagging) (v : VariantItem) (form : FormOf) → IsMisplacedTag tagging v form e → ⊥
  no_misplaced_tag tagging v form (inl (tuple, refusal)) = let same : TaggedTuple ≡ MissingRow = help_clash TaggedTuple MissingRow _ span _ message _ e refusal missing in absurd (cc)
  no_misplaced_tag tagging v form (inr (taken, (tag, told, refusal))) = other_kind DuplicateName _ _ (λ same. cc) refusal

  no_faulty_tagging : (items : List SerdeItem) (x : Ident) → IsFaultyTagging items x e → ⊥
  no_faulty_tagging items x (inl fault) = no_container_fault items fault
  no_faulty_tagging items x (inr (content, is, none, refusal)) = other_kind SerdeTag _ _ (λ same. cc) refusal

  -- ---- what is refused for a missing row

  module _ (around : Around) where
    no_type_fault : (f : FieldItem) → IsFaultyType around f e → ⊥
    no_type_fault f (fault, is, refusal) = no_refusal_for fault refusal

    no_faulty_tag : (tagging : Tagging) (v : VariantItem) → IsFaultyTag around tagging v e → ⊥
    no_faulty_tag tagging v (form, is, misplaced) = no_misplaced_tag tagging v form misplaced

    name_rowless : (place : RenamePlace) (rule : RenameRule) (x : Ident) (given : Option (List ℕ)) → or_as_it_was x.text (new_name place around.rows x.text given (Some rule)) ≡ None → IsRefusal MissingRow x.span (row_message rule x.text) e
        → Rowless around e (cond (is_given given) [] (record { rule = rule; place = place; ident = x } ∷ []))
    name_rowless place rule x None none refusal = inl (sym (as_row-is x.text (row_to rule place x.text around.rows)) ∙ none, refusal)
    name_rowless place rule x (Some []) none refusal = inl (sym (as_row-is x.text (row_to rule place x.text around.rows)) ∙ none, refusal)
    name_rowless place rule x (Some (b ∷ bs)) none refusal = absurd (cc)

    rowless : (place : RenamePlace) (rule : Option RenameRule) (value : SerdeValue) (x : Ident) → IsUnwritten place around.rows rule value x e → Rowless around e (asked_for place rule value x)
    rowless place None value x fault = absurd fault
    rowless place (Some rule) value x fault = name_rowless place rule x value.rename fault.0 fault.1

    member_rowless : (rules : FieldRules) (f : FieldItem) → IsFaultyMember around rules f e → Rowless around e (asked_of_field rules.rule f)
    member_rowless rules f (inl fault) = absurd (no_type_fault f fault)
    member_rowless rules f (inr (x, is, fault)) = subst (λ o. Rowless around e (asked_as rules.rule (value_of f) o)) (sym is) (rowless Field rules.rule (value_of f) x fault)

    fields_rowless : (items : List SerdeItem) (x : Ident) (fs : FieldItems) → AreFaultyFields around items x fs e → Rowless around e (asked_of_fields items fs)
    fields_rowless items x (named fs) (inl fault) = absurd (no_container_fault items fault)
    fields_rowless items x (named fs) (inr (inl (inl fault))) =
        gathered (λ a. IsRowless around.rows a e) (λ f. IsFaultyMember around (field_rules items) f e) (asked_of_field (rename_rule items)) (own fs) (member_rowless (field_rules items)) fault
    fields_rowless items x (named fs) (inr (inl (inr fault))) = absurd (no_name_twice _ fault)
    fields_rowless items x (named fs) (inr (inr (inl fault))) = absurd (somewhere_gives (λ f. IsFaultyType around f e) ⊥ (flattened fs) no_type_fault fault)
    fields_rowless items x (named fs) (inr (inr (inr (ts, is, fault)))) = absurd (no_second_map x (maps_among ts) fault)
    fields_rowless items x (unnamed fs) (inl fault) = somewhere_gives (λ f. IsFaultyType around f e) ⊥ fs no_type_fault fault
    fields_rowless items x (unnamed fs) (inr (none, refusal)) = other_kind Arity _ _ (λ same. cc) refusal
    fields_rowless items x unit fault = fault

    unnamed_rowless : (rule : Option RenameRule) (tagging : Tagging) (v : VariantItem) → IsUnnamed around.rows rule tagging v e → Rowless around e (asked_for Variant (told_rule tagging rule) (value_of_variant v) v.ident)
    unnamed_rowless rule External v fault = rowless Variant rule (value_of_variant v) v.ident fault
    unnamed_rowless rule (Internal tag) v fault = rowless Variant rule (value_of_variant v) v.ident fault
    unnamed_rowless rule (Adjacent tag content) v fault = rowless Variant rule (value_of_variant v) v.ident fault
    unnamed_rowless rule Untagged v fault = fault

    variant_rowless : (rule : Option RenameRule) (tagging : Tagging) (v : VariantItem) → IsFaultyVariant around rule tagging v e → Rowless around e (asked_of_variant (told_rule tagging rule) v)
    variant_rowless rule tagging v (inl fault) =
        somewhere_front (λ a. IsRowless around.rows a e) (asked_for Variant (told_rule tagging rule) (value_of_variant v) v.ident) (asked_of_fields (serde_items v.attrs) v.fields) (unnamed_rowless rule tagging v fault)
    variant_rowless rule tagging v (inr (inl fault)) =
        somewhere_back (λ a. IsRowless around.rows a e) (asked_for Variant (told_rule tagging rule) (value_of_variant v) v.ident) (asked_of_fields (serde_items v.attrs) v.fields)
        (fields_rowless (serde_items v.attrs) v.ident v.fields fault)
    variant_rowless rule tagging v (inr (inr fault)) = absurd (no_faulty_tag tagging v fault)

    variants_rowless : (rule : Option RenameRule) (tagging : Tagging) (vs : List VariantItem) → AreFaultyVariants around rule tagging vs e → Rowless around e (asked_of_variants (told_rule tagging rule) vs)
    variants_rowless rule tagging vs (inl fault) =
        gathered (λ a. IsRowless around.rows a e) (λ v. IsFaultyVariant around rule tagging v e) (asked_of_variant (told_rule tagging rule)) (kept_variants vs) (variant_rowless rule tagging) fault
    variants_rowless rule tagging vs (inr fault) = absurd (no_name_twice _ fault)

    told_rowless : (r : Result SerdeEnumRepr TagFault) (rule : Option RenameRule) (vs : List VariantItem) (tagging : Tagging) → tagging_by r ≡ Some tagging → AreFaultyVariants around rule tagging vs e → Rowless around e (asked_told r rule vs)
    told_rowless (Ok serde.ExternallyTagged) rule vs tagging is fault = let same : tagging ≡ External = cc in variants_rowless rule External vs (subst (λ t. AreFaultyVariants around rule t vs e) same fault)
    told_rowless (Ok (serde.InternallyTagged tag)) rule vs tagging is fault = let same : tagging ≡ Internal tag = cc in variants_rowless rule (Internal tag) vs (subst (λ t. AreFaultyVariants around rule t vs e) same fault)
    told_rowless (Ok (serde.AdjacentlyTagged tag content)) rule vs tagging is fault =
        let same : tagging ≡ Adjacent tag content = cc in variants_rowless rule (Adjacent tag content) vs (subst (λ t. AreFaultyVariants around rule t vs e) same fault)
    told_rowless (Ok serde.Untagged) rule vs tagging is fault = let same : tagging ≡ Untagged = cc in variants_rowless rule Untagged vs (subst (λ t. AreFaultyVariants around rule t vs e) same fault)
    told_rowless (Ok (serde.UnfinishedAdjacentlyTagged content)) rule vs tagging is fault = absurd (cc)
    told_rowless (Err why) rule vs tagging is fault = absurd (cc)

    body_rowless : (items : List SerdeItem) (x : Ident) (body : BodyItem) → IsFaultyBody around items x body e → Rowless around e (asked_of_body items body)
    body_rowless items x (struct_body fs) fault = fields_rowless items x fs fault
    body_rowless items x (enum_body vs) (inl fault) = absurd (no_faulty_tagging items x fault)
    body_rowless items x (enum_body vs) (inr (tagging, is, fault)) = told_rowless (representation items) (rename_rule items) vs tagging is fault

    item_rowless : (d : DeclaredItem) → IsFaultyItem around d e → IsRowlessDerived around.rows d e
    item_rowless d (inl (inl twice)) = absurd (no_name_twice _ twice)
    item_rowless d (inl (inr twice)) = absurd (no_name_twice _ twice)
    item_rowless d (inr (inl (other, is, refusal))) = absurd (other_kind Syntax _ _ (λ same. cc) refusal)
    item_rowless d (inr (inr (derivable, fault))) = (derivable, body_rowless (serde_items d.attrs) d.ident d.body fault)

-- ---- the laws

pub items_look_up : ItemsLookUpRows
items_look_up around d e = (
  λ fault. item_rowless fault.1.0 fault.1.1 e fault.1.2 around d fault.0,
  λ rowless. (item_faulty around e d rowless, missing_row around e (asked_of_item d) rowless.1),
)

pub declarations_look_up : DeclarationsLookUpRows
declarations_look_up c ds e = (
  λ fault. somewhere_weaker (λ d. IsFaultyItem (around_of c ds d.ident.text d.generics) d e) (λ d. IsRowlessDerived c.renames d e) ds (λ d own. (items_look_up (around_of c ds d.ident.text d.generics) d e).0 (own, fault.1)) fault.0,
  λ rowless. (
    somewhere_weaker (λ d. IsRowlessDerived c.renames d e) (λ d. IsFaultyItem (around_of c ds d.ident.text d.generics) d e) ds (λ d own. ((items_look_up (around_of c ds d.ident.text d.generics) d e).1 own).0) rowless,
    somewhere_gives (λ d. IsRowlessDerived c.renames d e) (IsMissingRow e) ds (λ d own. ((items_look_up (around_of c ds d.ident.text d.generics) d e).1 own).1) rowless,
  ),
)

-- What is resolved to something has no fault.
use Rattle.std.proofs.Common.{ℕ, List, [], ◌∷◌, Bool, true, false, not, cond, Option, Some, None, is_some, is_none, is_ok, IsTrue, codes, Result, Ok, Err, option_and_then, ◌≡◌, ◌∙◌, refl, ap, sym, subst, inl, inr}
use Rattle.std.specs.List.{list_all}
use Rattle.std.proofs.lemmas.Bool.{false≢true, and_parts, not-true}
use Rattle.std.proofs.lemmas.Option.{none-some, same_Some}
use Rattle.diag.specs.Refusal.{RefusesNone}
use Rattle.diag.specs.declared.error.DeriveError.{DeriveError}
use Rattle.diag.specs.declared.rename_rule.RenameRule.{RenameRule}
use Rattle.diag.specs.declared.rename_row.RenameRow.{RenameRow}
use Rattle.diag.specs.declared.rename_row.RenamePlace.{RenamePlace}
use Rattle.diag.specs.declared.rename_row.RenamePlace.TheVariants.{Field, Variant}
use Rattle.texts.specs.Names.{IsDistinct}
use Rattle.texts.proofs.Laws.{mapped, and_then}
use Rattle.written_types.specs.declared.written.Ident.{Ident}
use Rattle.attributes.specs.Attributes.{AttributeItem, serde_items}
use Rattle.attributes.specs.declared.serde_item.SerdeItem.{SerdeItem}
use Rattle.serde_rules.specs.declared.value.SerdeValue.{SerdeValue}
use Rattle.serde_rules.specs.declared.container.SerdeContainer.{SerdeContainer}
use Rattle.serde_rules.specs.declared.enum_repr.SerdeEnumRepr.{SerdeEnumRepr}
use Rattle.serde_rules.specs.Container.{TagFault, representation, rename_rule, names_known_rule, AreContainerRules, IsContainerRefusal}
use Rattle.serde_rules.specs.Items.{has_item}
use Rattle.syntax.specs.Items.{FieldItem, FieldItems, named, unnamed, unit, VariantItem, BodyItem, struct_body, enum_body, DeclaredItem}
use Rattle.open_types.specs.Open.{Open}
use Rattle.resolving.specs.Resolved.{resolved_type, ResolutionIsExact}
use Rattle.scopes.specs.Names.{texts, are_distinct, IsGivenTwice}
use Rattle.scopes.specs.Parameters.{parameters_of}
use Rattle.scopes.specs.declared.parameters.ParameterKind.TheVariants.{TypesAndConstants}
use Rattle.shapes.specs.Declarations.{MemberOf, FormOf, unnamed_fields, VariantOf, BodyOf, fields, units, variants, DeclarationOf, member_names, variant_names, telling}
use Rattle.shapes.specs.declared.tagging.Tagging.{Tagging}
use Rattle.shapes.specs.declared.tagging.Tagging.TheVariants.{External, Internal, Adjacent, Untagged}
use Rattle.derive_decl.specs.Attributed.{attributes_with, are_derivable}
use Rattle.serde_names.specs.Kept.{value_of, own, flattened, kept_variants, value_of_variant}
use Rattle.serde_names.specs.Names.{name_by, IsUnwritten}
use Rattle.derive_decl.specs.Fields.{FieldRules, field_rules, are_allowed, written_idents}
use Rattle.derive_decl.specs.Lifetimes.{lifetimes_of, parameters_are_distinct}
use Rattle.derive_decl.specs.Tags.{can_be_tagged, tag_is_taken, tag_stands, IsMisplacedTag}
use Rattle.derive_decl.specs.Variants.{tagging_by, tagging_in, are_units, are_told, variant_name, telling_idents}
use Rattle.derive_decl.specs.Resolved.{Around, around_of, all_of, passing, member_of, members_are_distinct, members_of, TypedOf, typed_of, maps_among, has_one_map, flattened_fields, named_form, form_of, variant_of, variants_are_told, units_of, mixed_of, enum_of, enum_by, plain_body, mixed_body, body_of, derived_body, declaration_from, declaration_of, resolved_of}
use Rattle.derive_decl.specs.Faults.{IsFaultyType, IsFaultyMember, AreFaultyMembers, AreSeveralMaps, AreFaultyFlattened, AreFaultyFields, IsUnnamed, AreUnnamed, IsFaultyVariant, AreFaultyVariants, IsFaultyBy, IsFaultyPlain, IsFaultyEnum, IsFaultyBody, IsFaultyDeclaration, IsFaultyItem, AreFaultyItems}
use Rattle.configuration.specs.Configuration.{Configuration}
use Rattle.derive_decl.specs.Whole.{resolved_among, resolved_declarations}
use Rattle.derive_decl.proofs.EnumLaws.{units-unnamed}
use Rattle.derive_decl.proofs.NamedForms.{named_parts, one_clear}
use Rattle.derive_decl.proofs.Parts.{member_parts, member_texts, variant_parts, variants_named, telling_texts}
use Rattle.derive_decl.proofs.TagLaws.{free_tag}
use Rattle.derive_decl.proofs.Values.{chosen, passed, distinct_from, all_clear}

-- the laws of names and of serde's items
abbrev pub NamesOnce : Type 0
NamesOnce = (xs : List Ident) → IsDistinct (texts xs) → RefusesNone (IsGivenTwice xs)

abbrev pub RulesAllowed : Type 0
RulesAllowed = (items : List SerdeItem) (rules : SerdeContainer) (e : DeriveError) → AreContainerRules items rules → IsContainerRefusal items e → ⊥

-- ---- names and serde's items

-- the rules that items say, where they say some
rules_said : (items : List SerdeItem) → are_allowed items ≡ true → (rules : SerdeContainer) × AreContainerRules items rules
rules_said items e =
    let parts = and_parts (is_ok (representation items)) (list_all names_known_rule items) e in
    by (representation items) refl parts.0 parts.1
  where
    by : (r : Result SerdeEnumRepr TagFault) → representation items ≡ r → is_ok r ≡ true → IsTrue (list_all names_known_rule items) → (rules : SerdeContainer) × AreContainerRules items rules
    by (Ok repr) is ok known = (
      record { rename_all = rename_rule items; enum_repr = repr; default = has_item (codes "default") items; deny_unknown_fields = has_item (codes "deny_unknown_fields") items },
      record { rename_all = refl; known = known; enum_repr = is; default = refl; deny_unknown_fields = refl },
    )
    by (Err why) is ok known = absurd (false≢true ok)

pub written_clear : (place : RenamePlace) (rows : List RenameRow) (rule : Option RenameRule) (value : SerdeValue) (x : Ident) (name : List ℕ) → name_by place rows rule value x ≡ Some name → RefusesNone (IsUnwritten place rows rule value x)
written_clear place rows None value x name is e h = h
written_clear place rows (Some rule) value x name is e h = none-some name (sym h.0 ∙ is)

named_clear : (rows : List RenameRow) (rule : Option RenameRule) (tagging : Tagging) (v : VariantItem) (name : List ℕ) → variant_name rows rule tagging v ≡ Some name → RefusesNone (IsUnnamed rows rule tagging v)
named_clear rows rule Untagged v name is e h = h
named_clear rows rule External v name is e h = written_clear Variant rows rule (value_of_variant v) v.ident name is e h
named_clear rows rule (Internal tag) v name is e h = written_clear Variant rows rule (value_of_variant v) v.ident name is e h
named_clear rows rule (Adjacent tag content) v name is e h = written_clear Variant rows rule (value_of_variant v) v.ident name is e h

tag_clear : (tagging : Tagging) (v : VariantItem) (form : FormOf) → tag_stands tagging form ≡ true → RefusesNone (IsMisplacedTag tagging v form)
tag_clear tagging v form stands =
    let parts = and_parts (can_be_tagged tagging form) (not (tag_is_taken tagging form)) stands in
    free_tag tagging v form parts.0 (not-true (tag_is_taken tagging form) parts.1)

module _ (exact : ResolutionIsExact) (once : NamesOnce) (allowed : RulesAllowed) where
  items_clear : (items : List SerdeItem) → are_allowed items ≡ true → RefusesNone (IsContainerRefusal items)
  items_clear items is e h = let said = rules_said items is in allowed items said.0 e said.1 h

  -- names that differ are not given twice
  twice_clear : (xs : List Ident) (names : List (List ℕ)) → texts xs ≡ names → are_distinct names ≡ true → RefusesNone (IsGivenTwice xs)
  twice_clear xs names is differ = once xs (subst IsDistinct (sym is) (distinct_from names differ))

  -- ---- fields

  type_clear : (around : Around) (f : FieldItem) (u : Open) → resolved_type around.known f.ty ≡ Some u → RefusesNone (IsFaultyType around f)
  type_clear around f u is e (fault, holds, refusal) = (exact around.known f.ty).0 (ap is_some is) fault holds

  member_clear : (around : Around) (rules : FieldRules) (f : FieldItem) (m : MemberOf) → member_of around rules f ≡ Some m → RefusesNone (IsFaultyMember around rules f)
  member_clear around rules f m is e (inl fault) = type_clear around f m.of (member_parts around rules f m is).typed e fault
  member_clear around rules f m is e (inr (x, at, unwritten)) =
      let parts = member_parts around rules f m is in
      let same : x ≡ parts.ident = same_Some x parts.ident (sym at ∙ parts.is) in
      written_clear Field around.rows rules.rule (value_of f) parts.ident m.name parts.named e (subst (λ y. IsUnwritten Field around.rows rules.rule (value_of f) y e) same unwritten)

  members_clear : (around : Around) (rules : FieldRules) (fs : List FieldItem) (ms : List MemberOf) → members_of around rules fs ≡ Some ms → RefusesNone (AreFaultyMembers around rules fs)
  members_clear around rules fs ms is =
      let all = passed members_are_distinct (all_of (member_of around rules) (own fs)) ms is in
      λ e fault. elim fault [
        | inl somewhere ↦ all_clear (member_of around rules) (IsFaultyMember around rules) (member_clear around rules) (own fs) ms all.0 e somewhere
        | inr twice ↦ twice_clear (written_idents around.rows rules.rule (own fs)) (member_names ms) (member_texts around rules (own fs) ms all.0) all.1 e twice
      ]

  typed_clear : (around : Around) (f : FieldItem) (t : TypedOf) → typed_of around f ≡ Some t → RefusesNone (IsFaultyType around f)
  typed_clear around f t is = let of = mapped (λ u. record { field = f; of = u }) (resolved_type around.known f.ty) t is in type_clear around f of.0 of.1

  flattened_clear : (around : Around) (x : Ident) (fs : List FieldItem) (ts : List TypedOf) → flattened_fields around fs ≡ Some ts → RefusesNone (AreFaultyFlattened around x fs)
  flattened_clear around x fs ts is =
      let all = passed has_one_map (all_of (typed_of around) (flattened fs)) ts is in
      λ e fault. elim fault [
        | inl somewhere ↦ all_clear (typed_of around) (IsFaultyType around) (typed_clear around) (flattened fs) ts all.0 e somewhere
        | inr (us, at, several) ↦ one_clear x ts all.1 e (subst (λ vs. AreSeveralMaps x (maps_among vs) e) (same_Some us ts (sym at ∙ all.0)) several)
      ]

  pub form_clear : (around : Around) (items : List SerdeItem) (x : Ident) (fs : FieldItems) (form : FormOf) → form_of around items fs ≡ Some form → RefusesNone (AreFaultyFields around items x fs)
  form_clear around items x (named fs) form is e fault =
      let named_is = chosen (are_allowed items) (named_form around (field_rules items) fs) form is in
      let parts = named_parts around (field_rules items) fs form named_is.1 in
      elim fault [
        | inl refused ↦ items_clear items named_is.0 e refused
        | inr (inl faulty) ↦ members_clear around (field_rules items) fs parts.members parts.own e faulty
        | inr (inr faulty) ↦ flattened_clear around x fs parts.beside parts.flattened e faulty
      ]
  form_clear around items x (unnamed []) form is e fault = none-some form is
  form_clear around items x (unnamed (f ∷ fs)) form is e (inl somewhere) =
      let found = mapped unnamed_fields (all_of (λ (g : FieldItem). resolved_type around.known g.ty) (f ∷ fs)) form is in
      all_clear (λ (g : FieldItem). resolved_type around.known g.ty) (IsFaultyType around) (type_clear around) (f ∷ fs) found.0 found.1 e somewhere
  form_clear around items x (unnamed (f ∷ fs)) form is e (inr (none, refusal)) = cc
  form_clear around items x unit form is e fault = fault

  -- ---- variants

  variant_clear : (around : Around) (rule : Option RenameRule) (tagging : Tagging) (v : VariantItem) (x : VariantOf) → variant_of around rule tagging v ≡ Some x → RefusesNone (IsFaultyVariant around rule tagging v)
  variant_clear around rule tagging v x is =
      let parts = variant_parts around rule tagging v x is in
      let tagged = passed (tag_stands tagging) (form_of around (serde_items v.attrs) v.fields) x.form parts.1 in
      λ e fault. elim fault [
        | inl nameless ↦ named_clear around.rows rule tagging v x.name parts.0 e nameless
        | inr (inl faulty) ↦ form_clear around (serde_items v.attrs) v.ident v.fields x.form tagged.0 e faulty
        | inr (inr tag) ↦ tag_clear tagging v x.form tagged.1 e (subst (λ form. IsMisplacedTag tagging v form e) (same_Some tag.0 x.form (sym tag.1 ∙ tagged.0)) tag.2)
      ]

  -- names that tell variants apart are not given twice
  told_clear : (rows : List RenameRow) (rule : Option RenameRule) (tagging : Tagging) (vs : List VariantItem) (names : List (List ℕ)) → all_of (variant_name rows rule tagging) vs ≡ Some names → are_told tagging names ≡ true →
      RefusesNone (IsGivenTwice (telling_idents rows rule tagging vs))
  told_clear rows rule tagging vs names is told = twice_clear (telling_idents rows rule tagging vs) (telling tagging names) (telling_texts rows rule tagging vs names is) told

  pub units_clear : (around : Around) (rule : Option RenameRule) (vs : List VariantItem) (tagging : Tagging) (body : BodyOf) → units_of around rule vs tagging ≡ Some body → RefusesNone (AreUnnamed around.rows rule tagging vs)
  units_clear around rule vs tagging body is =
      let found = mapped (units tagging) (passing (are_told tagging) (all_of (variant_name around.rows rule tagging) (kept_variants vs))) body is in
      let all = passed (are_told tagging) (all_of (variant_name around.rows rule tagging) (kept_variants vs)) found.0 found.1 in
      λ e fault. elim fault [
        | inl somewhere ↦ all_clear (variant_name around.rows rule tagging) (IsUnnamed around.rows rule tagging) (named_clear around.rows rule tagging) (kept_variants vs) found.0 all.0 e somewhere
        | inr twice ↦ told_clear around.rows rule tagging (kept_variants vs) found.0 all.0 all.1 e twice
      ]

  pub mixed_clear : (around : Around) (rule : Option RenameRule) (vs : List VariantItem) (tagging : Tagging) (body : BodyOf) → mixed_of around rule vs tagging ≡ Some body → RefusesNone (AreFaultyVariants around rule tagging vs)
  mixed_clear around rule vs tagging body is =
      let found = mapped (variants tagging) (passing (variants_are_told tagging) (all_of (variant_of around rule tagging) (kept_variants vs))) body is in
      let all = passed (variants_are_told tagging) (all_of (variant_of around rule tagging) (kept_variants vs)) found.0 found.1 in
      λ e fault. elim fault [
        | inl somewhere ↦ all_clear (variant_of around rule tagging) (IsFaultyVariant around rule tagging) (variant_clear around rule tagging) (kept_variants vs) found.0 all.0 e somewhere
        | inr twice ↦ told_clear around.rows rule tagging (kept_variants vs) (variant_names found.0) (variants_named around rule tagging (kept_variants vs) found.0 all.0) all.1 e twice
      ]

  enum_clear : (around : Around) (rule : Option RenameRule) (vs : List VariantItem) (tagging : Tagging) (body : BodyOf) → enum_of around rule vs tagging ≡ Some body → RefusesNone (AreFaultyVariants around rule tagging vs)
  enum_clear around rule vs tagging body is = by (are_units vs) refl is
    where
      by : (b : Bool) → are_units vs ≡ b → cond b (units_of around rule vs tagging) (mixed_of around rule vs tagging) ≡ Some body → RefusesNone (AreFaultyVariants around rule tagging vs)
      by true all h e fault = units_clear around rule vs tagging body h e (units-unnamed around rule tagging e vs all fault)
      by false all h e fault = mixed_clear around rule vs tagging body h e fault

  enum_by_clear : (items : List SerdeItem) (x : Ident) (of : Option RenameRule → Tagging → Option BodyOf) (faulty : Option RenameRule → Tagging → DeriveError → Type 0) →
      ((tagging : Tagging) (body : BodyOf) → of (rename_rule items) tagging ≡ Some body → RefusesNone (faulty (rename_rule items) tagging)) → (body : BodyOf) → enum_by items of ≡ Some body → RefusesNone (IsFaultyBy items x faulty)
  enum_by_clear items x of faulty clear body is =
      let said = chosen (are_allowed items) (option_and_then (of (rename_rule items)) (tagging_in items)) body is in
      let told = and_then (of (rename_rule items)) (tagging_in items) body said.1 in
      λ e fault. elim fault [
        | inl (inl refused) ↦ items_clear items said.0 e refused
        | inl (inr unfinished) ↦ none-some told.0 (sym (ap tagging_by unfinished.1) ∙ told.1)
        | inr (tagging, at, h) ↦ clear told.0 body told.2 e (subst (λ t. faulty (rename_rule items) t e) (same_Some tagging told.0 (sym at ∙ told.1)) h)
      ]

  pub plain_clear : (around : Around) (items : List SerdeItem) (x : Ident) (vs : List VariantItem) (body : BodyOf) → plain_body around items vs ≡ Some body → RefusesNone (IsFaultyPlain around items x vs)
  plain_clear around items x vs body is =
      enum_by_clear items x (λ rule. units_of around rule vs) (λ rule tagging e. AreUnnamed around.rows rule tagging vs e) (λ tagging of. units_clear around (rename_rule items) vs tagging of) body is

  pub mixed_by_clear : (around : Around) (items : List SerdeItem) (x : Ident) (vs : List VariantItem) (body : BodyOf) → mixed_body around items vs ≡ Some body → RefusesNone (IsFaultyEnum around items x vs)
  mixed_by_clear around items x vs body is =
      enum_by_clear items x (λ rule. mixed_of around rule vs) (λ rule tagging e. AreFaultyVariants around rule tagging vs e) (λ tagging of. mixed_clear around (rename_rule items) vs tagging of) body is

  -- ---- declarations

  pub body_clear : (around : Around) (items : List SerdeItem) (x : Ident) (body : BodyItem) (of : BodyOf) → body_of around items body ≡ Some of → RefusesNone (IsFaultyBody around items x body)
  body_clear around items x (struct_body fs) of is = let found = mapped fields (form_of around items fs) of is in form_clear around items x fs found.0 found.1
  body_clear around items x (enum_body vs) of is =
      enum_by_clear items x (λ rule. enum_of around rule vs) (λ rule tagging e. AreFaultyVariants around rule tagging vs e) (λ tagging body. enum_clear around (rename_rule items) vs tagging body) of is

  pub derived_clear : (around : Around) (attributes : List AttributeItem) (x : Ident) (body : BodyItem) (of : BodyOf) → derived_body around attributes body ≡ Some of → RefusesNone (IsFaultyDeclaration around attributes x body)
  derived_clear around attributes x body of is e fault =
      let derived = chosen (are_derivable (attributes_with attributes body)) (body_of around (serde_items attributes) body) of is in
      elim fault [
        | inl (span, at, refusal) ↦ false≢true (sym (ap is_none at) ∙ derived.0)
        | inr (none, faulty) ↦ body_clear around (serde_items attributes) x body of derived.1 e faulty
      ]

  pub item_clear : (around : Around) (d : DeclaredItem) (s : DeclarationOf) → resolved_of around d ≡ Some s → RefusesNone (IsFaultyItem around d)
  item_clear around d s is e fault =
      let own = chosen (parameters_are_distinct d.generics) (declaration_of around d.attrs d.ident d.body) s is in
      let names = and_parts (are_distinct (texts (parameters_of TypesAndConstants d.generics))) (are_distinct (texts (lifetimes_of d.generics))) own.0 in
      let of = mapped (declaration_from around d.attrs d.ident) (derived_body around d.attrs d.body) s own.1 in
      elim fault [
        | inl (inl twice) ↦ twice_clear (parameters_of TypesAndConstants d.generics) _ refl names.0 e twice
        | inl (inr twice) ↦ twice_clear (lifetimes_of d.generics) _ refl names.1 e twice
        | inr faulty ↦ derived_clear around d.attrs d.ident d.body of.0 of.1 e faulty
      ]

  pub declarations_clear : (c : Configuration) (ds : List DeclaredItem) (ss : List DeclarationOf) → resolved_declarations c ds ≡ Some ss → RefusesNone (AreFaultyItems c ds)
  declarations_clear c ds ss is =
      all_clear (resolved_among c ds) (λ d e. IsFaultyItem (around_of c ds d.ident.text d.generics) d e) (λ d s. item_clear (around_of c ds d.ident.text d.generics) d s) ds ss is

-- In what is resolved names are apart.
use Rattle.std.proofs.Common.{List, [], ◌∷◌, Bool, true, false, not, cond, Option, Some, option_and_then, ◌≡◌, subst}
use Rattle.std.proofs.lemmas.Bool.{and_parts, not-true}
use Rattle.std.proofs.lemmas.Option.{none-some, same_Some}
use Rattle.diag.specs.declared.rename_rule.RenameRule.{RenameRule}
use Rattle.texts.specs.Names.{IsDistinct}
use Rattle.texts.proofs.Laws.{mapped, and_then}
use Rattle.attributes.specs.Attributes.{serde_items}
use Rattle.serde_rules.specs.Container.{rename_rule}
use Rattle.attributes.specs.declared.serde_item.SerdeItem.{SerdeItem}
use Rattle.syntax.specs.Items.{FieldItem, named, unnamed, unit, VariantItem, struct_body, enum_body, DeclaredItem}
use Rattle.resolving.specs.Resolved.{resolved_type}
use Rattle.shapes.specs.Declarations.{unnamed_fields, no_fields, VariantOf, BodyOf, fields, units, variants, DeclarationOf, member_names, form_names, variant_names, telling, IsApartVariant, AreApartVariants, IsApartBody, AreApartBodies}
use Rattle.shapes.specs.declared.tagging.Tagging.{Tagging}
use Rattle.derive_decl.specs.Attributed.{attributes_with, are_derivable}
use Rattle.serde_names.specs.Kept.{own, kept_variants}
use Rattle.derive_decl.specs.Fields.{field_rules, are_allowed}
use Rattle.derive_decl.specs.Lifetimes.{parameters_are_distinct}
use Rattle.derive_decl.specs.Law.{FormsAreApart, UnitsAreApart, VariantsAreApart, PlainAreApart, MixedAreApart, BodiesAreApart, ItemsAreApart, DeclarationsAreApart}
use Rattle.derive_decl.specs.Tags.{can_be_tagged, tag_is_taken, tag_stands}
use Rattle.derive_decl.specs.Variants.{tagging_in, are_units, are_told, variant_name}
use Rattle.derive_decl.specs.Resolved.{Around, around_of, all_of, passing, member_of, members_are_distinct, named_form, form_of, variant_of, variants_are_told, units_of, mixed_of, enum_of, enum_by, body_of, derived_body, declaration_from, declaration_of}
use Rattle.derive_decl.specs.Whole.{resolved_among}
use Rattle.derive_decl.proofs.NamedForms.{named_parts}
use Rattle.derive_decl.proofs.Parts.{variant_parts}
use Rattle.derive_decl.proofs.TagLaws.{distinct_beside}
use Rattle.derive_decl.proofs.Values.{joined, chosen, passed, distinct_from}

pub forms_apart : FormsAreApart
forms_apart around items (named fs) form is =
    let rules = field_rules items in
    let parts = named_parts around rules fs form (chosen (are_allowed items) (named_form around rules fs) form is).1 in
    subst (λ f. IsDistinct (form_names f)) parts.is (distinct_from (member_names parts.members) (passed members_are_distinct (all_of (member_of around rules) (own fs)) parts.members parts.own).1)
forms_apart around items (unnamed []) form is = absurd (none-some form is)
forms_apart around items (unnamed (f ∷ fs)) form is =
    subst (λ f. IsDistinct (form_names f)) (mapped unnamed_fields (all_of (λ (g : FieldItem). resolved_type around.known g.ty) (f ∷ fs)) form is).2 tt
forms_apart around items unit form is = subst (λ f. IsDistinct (form_names f)) (same_Some no_fields form is) tt

-- ---- enums

variant_apart : (around : Around) (rule : Option RenameRule) (tagging : Tagging) (v : VariantItem) (x : VariantOf) → variant_of around rule tagging v ≡ Some x → IsApartVariant tagging x
variant_apart around rule tagging v x is =
    let tagged = passed (tag_stands tagging) (form_of around (serde_items v.attrs) v.fields) x.form (variant_parts around rule tagging v x is).1 in
    let distinct = forms_apart around (serde_items v.attrs) v.fields x.form tagged.0 in
    let free = not-true (tag_is_taken tagging x.form) (and_parts (can_be_tagged tagging x.form) (not (tag_is_taken tagging x.form)) tagged.1).1 in
    (distinct, distinct_beside tagging x.form free distinct)

all_apart : (around : Around) (rule : Option RenameRule) (tagging : Tagging) (vs : List VariantItem) (xs : List VariantOf) → all_of (variant_of around rule tagging) vs ≡ Some xs → AreApartVariants tagging xs
all_apart around rule tagging [] xs is = subst (AreApartVariants tagging) (same_Some [] xs is) tt
all_apart around rule tagging (v ∷ vs) xs is =
    let j = joined (variant_of around rule tagging v) (all_of (variant_of around rule tagging) vs) xs is in
    subst (AreApartVariants tagging) j.4 (variant_apart around rule tagging v j.0 j.2, all_apart around rule tagging vs j.1 j.3)

pub units_apart : UnitsAreApart
units_apart around rule vs tagging of is =
    let found = mapped (units tagging) (passing (are_told tagging) (all_of (variant_name around.rows rule tagging) (kept_variants vs))) of is in
    subst IsApartBody found.2 (distinct_from (telling tagging found.0) (passed (are_told tagging) (all_of (variant_name around.rows rule tagging) (kept_variants vs)) found.0 found.1).1)

pub variants_apart : VariantsAreApart
variants_apart around rule vs tagging of is =
    let found = mapped (variants tagging) (passing (variants_are_told tagging) (all_of (variant_of around rule tagging) (kept_variants vs))) of is in
    let all = passed (variants_are_told tagging) (all_of (variant_of around rule tagging) (kept_variants vs)) found.0 found.1 in
    subst IsApartBody found.2 (distinct_from (telling tagging (variant_names found.0)) all.1, all_apart around rule tagging (kept_variants vs) found.0 all.0)

-- how the values of an enum tell their variant
told : (items : List SerdeItem) (of : Option RenameRule → Tagging → Option BodyOf) (body : BodyOf) → enum_by items of ≡ Some body → (tagging : Tagging) × (of (rename_rule items) tagging ≡ Some body)
told items of body is =
    let found = and_then (of (rename_rule items)) (tagging_in items) body (chosen (are_allowed items) (option_and_then (of (rename_rule items)) (tagging_in items)) body is).1 in (found.0, found.2)

pub plain_apart : PlainAreApart
plain_apart around items vs of is = let found = told items (λ rule. units_of around rule vs) of is in units_apart around (rename_rule items) vs found.0 of found.1

pub mixed_apart : MixedAreApart
mixed_apart around items vs of is = let found = told items (λ rule. mixed_of around rule vs) of is in variants_apart around (rename_rule items) vs found.0 of found.1

-- ---- declarations

pub bodies_apart : BodiesAreApart
bodies_apart around items (struct_body fs) of is = let found = mapped fields (form_of around items fs) of is in subst IsApartBody found.2 (forms_apart around items fs found.0 found.1)
bodies_apart around items (enum_body vs) of is = let found = told items (λ rule. enum_of around rule vs) of is in by found.0 (are_units vs) found.1
  where
    by : (tagging : Tagging) (b : Bool) → cond b (units_of around (rename_rule items) vs tagging) (mixed_of around (rename_rule items) vs tagging) ≡ Some of → IsApartBody of
    by tagging true h = units_apart around (rename_rule items) vs tagging of h
    by tagging false h = variants_apart around (rename_rule items) vs tagging of h

pub items_apart : ItemsAreApart
items_apart around d s is =
    let own = chosen (parameters_are_distinct d.generics) (declaration_of around d.attrs d.ident d.body) s is in
    let of = mapped (declaration_from around d.attrs d.ident) (derived_body around d.attrs d.body) s own.1 in
    let derived = chosen (are_derivable (attributes_with d.attrs d.body)) (body_of around (serde_items d.attrs) d.body) of.0 of.1 in
    subst (λ (r : DeclarationOf). IsApartBody r.body) of.2 (bodies_apart around (serde_items d.attrs) d.body of.0 derived.1)

pub declarations_apart : DeclarationsAreApart
declarations_apart c all ss is = among all ss is
  where
    among : (ds : List DeclaredItem) (ss : List DeclarationOf) → all_of (resolved_among c all) ds ≡ Some ss → AreApartBodies ss
    among [] ss is = subst AreApartBodies (same_Some [] ss is) tt
    among (d ∷ ds) ss is =
        let j = joined (resolved_among c all d) (all_of (resolved_among c all) ds) ss is in
        subst AreApartBodies j.4 (items_apart (around_of c all d.ident.text d.generics) d j.0 j.2, among ds j.1 j.3)

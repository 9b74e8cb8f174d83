-- Why a declaration has no schema: an attribute that nothing is derived from, a generic parameter given twice, serde's items that contradict each other, name a content and no tag, or name a rename rule that there is not, a tag that cannot stand where it should, a name that has no row or that two fields or variants have, a type that stands for nothing or is too large, a second flattened map, a form of unnamed fields without a field.
use Rattle.std.specs.Prelude.{◌≡◌, ◌≢◌, ◌⊎◌, ℕ, List, [], ◌∷◌, ◌++◌, Option, Some, None, Ok, codes, slice_get}
use Rattle.diag.specs.Diagnostics.{diagnostic, with_suggestion}
use Rattle.diag.specs.Refusal.{IsRefusal, IsSyntaxRefusal, RefusesNone}
use Rattle.diag.specs.declared.error.DeriveError.{DeriveError}
use Rattle.diag.specs.declared.error.DeriveError.TheVariants.{Refused, Memory}
use Rattle.diag.specs.declared.suggestion.Suggestion.TheVariants.{Note}
use Rattle.diag.specs.declared.kind.Kind.TheVariants.{Arity, DuplicateName, FlattenedMaps, SerdeTag}
use Rattle.diag.specs.declared.rename_rule.RenameRule.{RenameRule}
use Rattle.diag.specs.declared.rename_row.RenameRow.{RenameRow}
use Rattle.diag.specs.declared.rename_row.RenamePlace.TheVariants.{Field, Variant}
use Rattle.texts.specs.Lists.{Somewhere}
use Rattle.written_types.specs.declared.written.Ident.{Ident}
use Rattle.attributes.specs.Attributes.{AttributeItem, serde_items}
use Rattle.attributes.specs.declared.serde_item.SerdeItem.{SerdeItem}
use Rattle.configuration.specs.Configuration.{Configuration}
use Rattle.serde_rules.specs.declared.enum_repr.SerdeEnumRepr.TheVariants.{UnfinishedAdjacentlyTagged}
use Rattle.serde_rules.specs.Container.{representation, rename_rule, IsContainerRefusal}
use Rattle.syntax.specs.Items.{FieldItem, FieldItems, named, unnamed, unit, VariantItem, ParameterItem, BodyItem, struct_body, enum_body, DeclaredItem}
use Rattle.resolving.specs.Resolved.{Fault, IsFault, IsRefusedFor}
use Rattle.scopes.specs.Names.{IsGivenTwice, duplicate_message, place_among}
use Rattle.shapes.specs.Declarations.{FormOf}
use Rattle.shapes.specs.declared.tagging.Tagging.{Tagging}
use Rattle.shapes.specs.declared.tagging.Tagging.TheVariants.{External, Internal, Adjacent, Untagged}
use Rattle.derive_decl.specs.declared.feature.Other.{Other}
use Rattle.derive_decl.specs.Attributed.{attributes_with, attributes_among, first_other}
use Rattle.derive_decl.specs.Lifetimes.{lifetimes_of}
use Rattle.serde_names.specs.Kept.{value_of, own, flattened, value_of_variant, kept_variants}
use Rattle.serde_names.specs.Names.{IsUnwritten}
use Rattle.derive_decl.specs.Variants.{tagging_in, telling_idents}
use Rattle.derive_decl.specs.Fields.{FieldRules, field_rules, written_idents}
use Rattle.derive_decl.specs.Resolved.{Around, around_of, all_of, text_of, TypedOf, typed_of, maps_among, form_of}
use Rattle.derive_decl.specs.Tags.{IsMisplacedTag}
use Rattle.scopes.specs.Parameters.{parameters_of}
use Rattle.scopes.specs.declared.parameters.ParameterKind.TheVariants.{TypesAndConstants}

abbrev pub fieldless_message : List ℕ
fieldless_message = codes "a tuple form without a field"

-- ---- the answers

-- the error refuses an attribute that nothing is derived from, the first of them
abbrev pub IsUnderivable : List AttributeItem → DeriveError → Type 0
IsUnderivable attrs e = (other : Other) × (first_other attrs ≡ Some other) × IsSyntaxRefusal other.span e

-- the error refuses declarations for an attribute that nothing is derived from
abbrev pub AreUnderivable : List DeclaredItem → DeriveError → Type 0
AreUnderivable ds e = IsUnderivable (attributes_among ds) e

-- something is derived from each of the attributes of the declarations
abbrev pub AreDerivable : List DeclaredItem → Type 0
AreDerivable ds = first_other (attributes_among ds) ≡ None

-- the error refuses the field's type
abbrev pub IsFaultyType : Around → FieldItem → DeriveError → Type 0
IsFaultyType around f e = (fault : Fault) × IsFault around.known f.ty fault × IsRefusedFor fault e

-- the error refuses the field's name
abbrev pub IsFaultyName : List RenameRow → Option RenameRule → FieldItem → DeriveError → Type 0
IsFaultyName rows rule f e = (x : Ident) × (f.ident ≡ Some x) × IsUnwritten Field rows rule (value_of f) x e

-- the error refuses the field among named ones: for its type, or its name
abbrev pub IsFaultyMember : Around → FieldRules → FieldItem → DeriveError → Type 0
IsFaultyMember around rules f e = IsFaultyType around f e ⊎ IsFaultyName around.rows rules.rule f e

-- the error refuses the named fields: one of them, or a name that two have
abbrev pub AreFaultyMembers : Around → FieldRules → List FieldItem → DeriveError → Type 0
AreFaultyMembers around rules fs e =
    Somewhere (λ f. IsFaultyMember around rules f e) (own fs)
    ⊎ IsGivenTwice (written_idents around.rows rules.rule (own fs)) e

abbrev pub maps_message : List ℕ → List ℕ
maps_message name = codes "The structure `" ++ (name ++ codes "` contains multiple flattened map fields.")

abbrev pub first_map_note : List ℕ → List ℕ
first_map_note name = codes "first flattened map field was declared here as `" ++ (name ++ codes "`")

abbrev pub second_map_note : List ℕ → List ℕ
second_map_note name = codes "second flattened map field was declared here as `" ++ (name ++ codes "`")

-- the error refuses the second of two flattened maps of the struct or the variant of the name, and notes both
abbrev pub IsSecondMap : Ident → (first second : FieldItem) → DeriveError → Type 0
IsSecondMap x first second (Refused d) =
    d ≡ with_suggestion (Note (second_map_note (text_of second.ident))) (with_suggestion (Note (first_map_note (text_of first.ident))) (diagnostic FlattenedMaps second.span (maps_message x.text) ∷ []))
IsSecondMap x first second Memory = ⊥

-- of several maps it refuses the second
abbrev pub AreSeveralMaps : Ident → List TypedOf → DeriveError → Type 0
AreSeveralMaps x (first ∷ second ∷ others) e = IsSecondMap x first.field second.field e
AreSeveralMaps x _ e = ⊥

-- the error refuses what is flattened: the type of a field, or where each stands for something the second map
abbrev pub AreFaultyFlattened : Around → Ident → List FieldItem → DeriveError → Type 0
AreFaultyFlattened around x fs e =
    Somewhere (λ f. IsFaultyType around f e) (flattened fs)
    ⊎ ((ts : List TypedOf) × (all_of (typed_of around) (flattened fs) ≡ Some ts) × AreSeveralMaps x (maps_among ts) e)

-- the error refuses named fields of the struct or the variant of the name, or serde's items before it
abbrev pub AreFaultyNamed : Around → List SerdeItem → Ident → List FieldItem → DeriveError → Type 0
AreFaultyNamed around items x fs e =
    IsContainerRefusal items e ⊎ (AreFaultyMembers around (field_rules items) fs e ⊎ AreFaultyFlattened around x fs e)

-- the error refuses the unnamed fields: the type of one, or since there is none
abbrev pub AreFaultyTypes : Around → Ident → List FieldItem → DeriveError → Type 0
AreFaultyTypes around x fs e =
    Somewhere (λ f. IsFaultyType around f e) fs ⊎ ((fs ≡ []) × IsRefusal Arity x.span fieldless_message e)

abbrev pub AreFaultyFields : Around → List SerdeItem → Ident → FieldItems → DeriveError → Type 0
AreFaultyFields around items x (named fs) e = AreFaultyNamed around items x fs e
AreFaultyFields around items x (unnamed fs) e = AreFaultyTypes around x fs e
AreFaultyFields around items x unit e = ⊥

-- ---- enums

abbrev pub tagless_message : List ℕ
tagless_message = codes "serde content without tag"

-- the error refuses serde's items before an enum: one of them, or else that they name a content and no tag
abbrev pub IsFaultyTagging : List SerdeItem → Ident → DeriveError → Type 0
IsFaultyTagging items x e =
    IsContainerRefusal items e
    ⊎ ((content : List ℕ) × (representation items ≡ Ok (UnfinishedAdjacentlyTagged content)) × RefusesNone (IsContainerRefusal items) × IsRefusal SerdeTag x.span tagless_message e)

-- the error refuses the variant's name; that of an untagged enum needs no row
abbrev pub IsUnnamed : List RenameRow → Option RenameRule → Tagging → VariantItem → DeriveError → Type 0
IsUnnamed rows rule Untagged v e = ⊥
IsUnnamed rows rule External v e = IsUnwritten Variant rows rule (value_of_variant v) v.ident e
IsUnnamed rows rule (Internal tag) v e = IsUnwritten Variant rows rule (value_of_variant v) v.ident e
IsUnnamed rows rule (Adjacent tag content) v e = IsUnwritten Variant rows rule (value_of_variant v) v.ident e

-- the error refuses the name of one of the variants that are kept, or one that two are told by
abbrev pub AreUnnamed : List RenameRow → Option RenameRule → Tagging → List VariantItem → DeriveError → Type 0
AreUnnamed rows rule tagging vs e = Somewhere (λ v. IsUnnamed rows rule tagging v e) (kept_variants vs) ⊎ IsGivenTwice (telling_idents rows rule tagging (kept_variants vs)) e

-- the error refuses the variant, whose fields have a form, since the enum's tag cannot stand there
abbrev pub IsFaultyTag : Around → Tagging → VariantItem → DeriveError → Type 0
IsFaultyTag around tagging v e = (form : FormOf) × (form_of around (serde_items v.attrs) v.fields ≡ Some form) × IsMisplacedTag tagging v form e

-- the error refuses the variant's fields, or the enum's tag beside them
abbrev pub IsFaultyContent : Around → Tagging → VariantItem → DeriveError → Type 0
IsFaultyContent around tagging v e = AreFaultyFields around (serde_items v.attrs) v.ident v.fields e ⊎ IsFaultyTag around tagging v e

-- the error refuses the variant: its name, its fields, or the tag beside them
abbrev pub IsFaultyVariant : Around → Option RenameRule → Tagging → VariantItem → DeriveError → Type 0
IsFaultyVariant around rule tagging v e = IsUnnamed around.rows rule tagging v e ⊎ IsFaultyContent around tagging v e

-- the error refuses the variants that are kept: one of them, or a name that two are told by
abbrev pub AreFaultyVariants : Around → Option RenameRule → Tagging → List VariantItem → DeriveError → Type 0
AreFaultyVariants around rule tagging vs e =
    Somewhere (λ v. IsFaultyVariant around rule tagging v e) (kept_variants vs) ⊎ IsGivenTwice (telling_idents around.rows rule tagging (kept_variants vs)) e

-- the error refuses the enum of the name: serde's items before it, or for this, by their rule of names and how they say that its values tell their variant
abbrev pub IsFaultyBy : List SerdeItem → Ident → (Option RenameRule → Tagging → DeriveError → Type 0) → DeriveError → Type 0
IsFaultyBy items x faulty e =
    IsFaultyTagging items x e
    ⊎ ((tagging : Tagging) × (tagging_in items ≡ Some tagging) × faulty (rename_rule items) tagging e)

-- the error refuses the enum of the name by the names of its variants: serde's items before it, or one of the names
abbrev pub IsFaultyPlain : Around → List SerdeItem → Ident → List VariantItem → DeriveError → Type 0
IsFaultyPlain around items x vs e = IsFaultyBy items x (λ rule tagging. AreUnnamed around.rows rule tagging vs) e

-- the error refuses the enum of the name: serde's items before it, or its variants
abbrev pub IsFaultyEnum : Around → List SerdeItem → Ident → List VariantItem → DeriveError → Type 0
IsFaultyEnum around items x vs e = IsFaultyBy items x (λ rule tagging. AreFaultyVariants around rule tagging vs) e

-- ---- declarations

-- the error refuses the body of the declaration of the name, before which serde's items stand
abbrev pub IsFaultyBody : Around → List SerdeItem → Ident → BodyItem → DeriveError → Type 0
IsFaultyBody around items x (struct_body fs) e = AreFaultyFields around items x fs e
IsFaultyBody around items x (enum_body vs) e = IsFaultyEnum around items x vs e

-- the error refuses the declaration of these attributes and the name: for an attribute that nothing is derived from, or else for its body
abbrev pub IsFaultyDeclaration : Around → List AttributeItem → Ident → BodyItem → DeriveError → Type 0
IsFaultyDeclaration around attrs x body e =
    IsUnderivable (attributes_with attrs body) e ⊎ ((first_other (attributes_with attrs body) ≡ None) × IsFaultyBody around (serde_items attrs) x body e)

-- the error refuses a type or constant parameter whose name is given before, or such a lifetime
abbrev pub AreFaultyParameters : List ParameterItem → DeriveError → Type 0
AreFaultyParameters ps e = IsGivenTwice (parameters_of TypesAndConstants ps) e ⊎ IsGivenTwice (lifetimes_of ps) e

-- the error refuses a generic parameter that is given twice, or the declaration for what stands in it
abbrev pub IsFaultyItem : Around → DeclaredItem → DeriveError → Type 0
IsFaultyItem around d e = AreFaultyParameters d.generics e ⊎ IsFaultyDeclaration around d.attrs d.ident d.body e

-- the error refuses one of the declarations
abbrev pub AreFaultyItems : Configuration → List DeclaredItem → DeriveError → Type 0
AreFaultyItems c ds e = Somewhere (λ d. IsFaultyItem (around_of c ds d.ident.text d.generics) d e) ds

-- the error refuses the declaration, which stands at the place among these: one of its name stands before it, or else it is at fault itself
abbrev pub IsFaultyIn : Configuration → List DeclaredItem → ℕ → DeclaredItem → DeriveError → Type 0
IsFaultyIn c ds at d e =
    ((place_among ds d.ident.text ≢ Some at) × IsRefusal DuplicateName d.ident.span (duplicate_message d.ident.text) e)
    ⊎ ((place_among ds d.ident.text ≡ Some at) × IsFaultyItem (around_of c ds d.ident.text d.generics) d e)

abbrev pub IsFaultyAt : Configuration → List DeclaredItem → ℕ → DeriveError → Type 0
IsFaultyAt c ds at e = (d : DeclaredItem) × (slice_get ds at ≡ Some d) × IsFaultyIn c ds at d e

-- Which names of declarations need a row of a configuration (serde.rs, "Container attributes", `rename_all`; "Field attributes", `rename`), and how those are refused that have none.
use Rattle.std.specs.Prelude.{◌≡◌, ℕ, List, [], ◌∷◌, ◌++◌, Bool, true, false, cond, Option, Some, None, Result, Ok, Err}
use Rattle.std.specs.List.{flat_map}
use Rattle.diag.specs.Refusal.{IsRefusal}
use Rattle.diag.specs.RenameRows.{row_to}
use Rattle.diag.specs.declared.error.DeriveError.{DeriveError}
use Rattle.diag.specs.declared.kind.Kind.TheVariants.{MissingRow}
use Rattle.diag.specs.declared.rename_rule.RenameRule.{RenameRule}
use Rattle.diag.specs.declared.rename_row.RenameRow.{RenameRow}
use Rattle.diag.specs.declared.rename_row.RenamePlace.{RenamePlace}
use Rattle.diag.specs.declared.rename_row.RenamePlace.TheVariants.{Field, Variant}
use Rattle.texts.specs.Lists.{Somewhere}
use Rattle.written_types.specs.declared.written.Ident.{Ident}
use Rattle.attributes.specs.Attributes.{serde_items}
use Rattle.attributes.specs.declared.serde_item.SerdeItem.{SerdeItem}
use Rattle.serde_rules.specs.declared.value.SerdeValue.{SerdeValue}
use Rattle.serde_rules.specs.declared.enum_repr.SerdeEnumRepr.{SerdeEnumRepr}
use Rattle.serde_rules.specs.declared.enum_repr.SerdeEnumRepr.TheVariants.{ExternallyTagged, InternallyTagged, AdjacentlyTagged, Untagged, UnfinishedAdjacentlyTagged}
use Rattle.serde_rules.specs.Container.{TagFault, representation, rename_rule}
use Rattle.syntax.specs.Items.{FieldItem, FieldItems, named, unnamed, unit, VariantItem, BodyItem, struct_body, enum_body, DeclaredItem}
use Rattle.serde_names.specs.declared.asked.Asked.{Asked}
use Rattle.serde_names.specs.Kept.{value_of, own, value_of_variant, kept_variants}
use Rattle.serde_names.specs.Names.{row_message}

-- ---- the names

-- a name that serde's items give; an empty one is none
abbrev pub is_given : Option (List ℕ) → Bool
is_given None = false
is_given (Some []) = false
is_given (Some (b ∷ bs)) = true

-- the identifier, where a rule says its name and serde's items before it give none
abbrev pub asked_for : RenamePlace → Option RenameRule → SerdeValue → Ident → List Asked
asked_for place None value x = []
asked_for place (Some rule) value x = cond (is_given value.rename) [] (record { rule = rule; place = place; ident = x } ∷ [])

abbrev pub asked_as : Option RenameRule → SerdeValue → Option Ident → List Asked
asked_as rule value None = []
asked_as rule value (Some x) = asked_for Field rule value x

abbrev pub asked_of_field : Option RenameRule → FieldItem → List Asked
asked_of_field rule f = asked_as rule (value_of f) f.ident

-- the fields that are kept and not flattened, where they have names; serde's items before the struct or the variant say their rule
abbrev pub asked_of_fields : List SerdeItem → FieldItems → List Asked
asked_of_fields items (named fs) = flat_map (asked_of_field (rename_rule items)) (own fs)
asked_of_fields items (unnamed fs) = []
asked_of_fields items unit = []

-- the variant, and its fields
abbrev pub asked_of_variant : Option RenameRule → VariantItem → List Asked
asked_of_variant rule v = asked_for Variant rule (value_of_variant v) v.ident ++ asked_of_fields (serde_items v.attrs) v.fields

-- the variants that are kept, and their fields
abbrev pub asked_of_variants : Option RenameRule → List VariantItem → List Asked
asked_of_variants rule vs = flat_map (asked_of_variant rule) (kept_variants vs)

-- no value of an untagged enum has the name of its variant; nothing is derived from one with a content and no tag
abbrev pub asked_told_by : SerdeEnumRepr → Option RenameRule → List VariantItem → List Asked
asked_told_by ExternallyTagged rule vs = asked_of_variants rule vs
asked_told_by (InternallyTagged tag) rule vs = asked_of_variants rule vs
asked_told_by (AdjacentlyTagged tag content) rule vs = asked_of_variants rule vs
asked_told_by Untagged rule vs = asked_of_variants None vs
asked_told_by (UnfinishedAdjacentlyTagged content) rule vs = []

abbrev pub asked_told : Result SerdeEnumRepr TagFault → Option RenameRule → List VariantItem → List Asked
asked_told (Ok repr) rule vs = asked_told_by repr rule vs
asked_told (Err why) rule vs = []

-- the names in the body of a declaration before which serde's items stand
abbrev pub asked_of_body : List SerdeItem → BodyItem → List Asked
asked_of_body items (struct_body fs) = asked_of_fields items fs
asked_of_body items (enum_body vs) = asked_told (representation items) (rename_rule items) vs

abbrev pub asked_of_item : DeclaredItem → List Asked
asked_of_item d = asked_of_body (serde_items d.attrs) d.body

-- the names that need a row, in the order of the source
abbrev pub asked_of : List DeclaredItem → List Asked
asked_of ds = flat_map asked_of_item ds

-- ---- the refusals

-- the error refuses the name, since its row is not among these
abbrev pub IsRowless : List RenameRow → Asked → DeriveError → Type 0
IsRowless rows a e = (row_to a.rule a.place a.ident.text rows ≡ None) × IsRefusal MissingRow a.ident.span (row_message a.rule a.ident.text) e

-- the error refuses a name in the declaration
abbrev pub IsRowlessItem : List RenameRow → DeclaredItem → DeriveError → Type 0
IsRowlessItem rows d e = Somewhere (λ a. IsRowless rows a e) (asked_of_item d)

-- the error refuses a name in one of the declarations
abbrev pub AreRowlessItems : List RenameRow → List DeclaredItem → DeriveError → Type 0
AreRowlessItems rows ds e = Somewhere (λ d. IsRowlessItem rows d e) ds

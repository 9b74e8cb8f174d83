-- What refuses the rows of declarations: serde's items that say no rules, and names of which serde makes none.
use Rattle.std.specs.Prelude.{◌≡◌, ◌⊎◌, ℕ, List, ◌++◌, Result, Ok, Err, None, codes}
use Rattle.diag.specs.Refusal.{IsRefusal}
use Rattle.diag.specs.declared.error.DeriveError.{DeriveError}
use Rattle.diag.specs.declared.kind.Kind.TheVariants.{MissingRow}
use Rattle.diag.specs.declared.rename_rule.RenameRule.{RenameRule}
use Rattle.diag.specs.RenameRules.{name_of}
use Rattle.texts.specs.Lists.{Somewhere}
use Rattle.attributes.specs.Attributes.{serde_items}
use Rattle.attributes.specs.declared.serde_item.SerdeItem.{SerdeItem}
use Rattle.serde_rules.specs.declared.enum_repr.SerdeEnumRepr.{SerdeEnumRepr}
use Rattle.serde_rules.specs.declared.enum_repr.SerdeEnumRepr.TheVariants.{ExternallyTagged, InternallyTagged, AdjacentlyTagged, Untagged, UnfinishedAdjacentlyTagged}
use Rattle.serde_rules.specs.Container.{TagFault, representation, IsContainerRefusal}
use Rattle.syntax.specs.Items.{FieldItems, named, unnamed, unit, VariantItem, BodyItem, struct_body, enum_body, DeclaredItem}
use Rattle.serde_names.specs.declared.asked.Asked.{Asked}
use Rattle.serde_names.specs.Asked.{asked_of}
use Rattle.serde_names.specs.Kept.{kept_variants}
use Rattle.renaming.specs.Cases.{renamed}

-- the error refuses serde's items before a struct or a variant with named fields
abbrev pub AreRefusedFields : List SerdeItem → FieldItems → DeriveError → Type 0
AreRefusedFields items (named fs) e = IsContainerRefusal items e
AreRefusedFields items (unnamed fs) e = ⊥
AreRefusedFields items unit e = ⊥

abbrev pub IsRefusedVariant : VariantItem → DeriveError → Type 0
IsRefusedVariant v e = AreRefusedFields (serde_items v.attrs) v.fields e

abbrev pub AreRefusedVariants : List VariantItem → DeriveError → Type 0
AreRefusedVariants vs e = Somewhere (λ v. IsRefusedVariant v e) (kept_variants vs)

abbrev pub IsRefusedToldBy : SerdeEnumRepr → List VariantItem → DeriveError → Type 0
IsRefusedToldBy ExternallyTagged vs e = AreRefusedVariants vs e
IsRefusedToldBy (InternallyTagged tag) vs e = AreRefusedVariants vs e
IsRefusedToldBy (AdjacentlyTagged tag content) vs e = AreRefusedVariants vs e
IsRefusedToldBy Untagged vs e = AreRefusedVariants vs e
IsRefusedToldBy (UnfinishedAdjacentlyTagged content) vs e = ⊥

abbrev pub IsRefusedTold : Result SerdeEnumRepr TagFault → List VariantItem → DeriveError → Type 0
IsRefusedTold (Ok repr) vs e = IsRefusedToldBy repr vs e
IsRefusedTold (Err why) vs e = ⊥

-- the error refuses serde's items before a declaration, or before one of its variants
abbrev pub IsRefusedBody : List SerdeItem → BodyItem → DeriveError → Type 0
IsRefusedBody items (struct_body fs) e = AreRefusedFields items fs e
IsRefusedBody items (enum_body vs) e = IsContainerRefusal items e ⊎ IsRefusedTold (representation items) vs e

abbrev pub IsRefusedItem : DeclaredItem → DeriveError → Type 0
IsRefusedItem d e = IsRefusedBody (serde_items d.attrs) d.body e

abbrev pub AreRefusedItems : List DeclaredItem → DeriveError → Type 0
AreRefusedItems ds e = Somewhere (λ d. IsRefusedItem d e) ds

abbrev pub nameless_message : RenameRule → List ℕ → List ℕ
nameless_message rule name = codes "serde has no " ++ (name_of rule ++ (codes " name for " ++ name))

-- the error refuses an identifier of which serde makes no name by its rule
abbrev pub IsNameless : Asked → DeriveError → Type 0
IsNameless a e = (renamed a.rule a.place a.ident.text ≡ None) × IsRefusal MissingRow a.ident.span (nameless_message a.rule a.ident.text) e

-- the error refuses the declarations: serde's items in them, or a name that has no row
abbrev pub HaveNoRows : List DeclaredItem → DeriveError → Type 0
HaveNoRows ds e = AreRefusedItems ds e ⊎ Somewhere (λ a. IsNameless a e) (asked_of ds)

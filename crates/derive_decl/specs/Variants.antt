-- What serde's attributes say of an enum and of its variants (serde.rs, "Enum representations", "Variant attributes").
use Rattle.std.specs.Prelude.{ℕ, List, Bool, true, false, Option, Some, None, option_map, Result, Ok, Err, filter_map}
use Rattle.std.specs.List.{list_all}
use Rattle.diag.specs.declared.rename_rule.RenameRule.{RenameRule}
use Rattle.diag.specs.declared.rename_row.RenameRow.{RenameRow}
use Rattle.diag.specs.declared.rename_row.RenamePlace.TheVariants.{Variant}
use Rattle.written_types.specs.declared.written.Ident.{Ident}
use Rattle.attributes.specs.declared.serde_item.SerdeItem.{SerdeItem}
use Rattle.serde_rules.specs.declared.enum_repr.SerdeEnumRepr.{SerdeEnumRepr}
use Rattle.serde_rules.specs.declared.enum_repr.SerdeEnumRepr.TheVariants as serde
use Rattle.serde_rules.specs.Container.{TagFault, representation}
use Rattle.syntax.specs.Items.{FieldItems, unit, VariantItem}
use Rattle.scopes.specs.Names.{are_distinct}
use Rattle.shapes.specs.declared.tagging.Tagging.{Tagging}
use Rattle.shapes.specs.declared.tagging.Tagging.TheVariants.{External, Internal, Adjacent, Untagged}
use Rattle.shapes.specs.Declarations.{telling}
use Rattle.serde_names.specs.Kept.{value_of_variant}
use Rattle.serde_names.specs.Names.{name_by, named_at}

-- how the values of an enum tell their variant; nothing says it where a content is named and no tag
abbrev pub tagging_of : SerdeEnumRepr → Option Tagging
tagging_of serde.ExternallyTagged = Some External
tagging_of (serde.InternallyTagged tag) = Some (Internal tag)
tagging_of (serde.AdjacentlyTagged tag content) = Some (Adjacent tag content)
tagging_of serde.Untagged = Some Untagged
tagging_of (serde.UnfinishedAdjacentlyTagged content) = None

abbrev pub tagging_by : Result SerdeEnumRepr TagFault → Option Tagging
tagging_by (Ok repr) = tagging_of repr
tagging_by (Err why) = None

-- what serde's items before an enum say of it
abbrev pub tagging_in : List SerdeItem → Option Tagging
tagging_in items = tagging_by (representation items)

abbrev pub is_unit : FieldItems → Bool
is_unit unit = true
is_unit _ = false

-- no variant has braces or parentheses, even empty ones; skipped variants count too
abbrev pub are_units : List VariantItem → Bool
are_units vs = list_all (λ v. is_unit v.fields) vs

-- the name of a variant in JSON, by the enum's rule; that of an untagged enum stands nowhere, so it needs no row
abbrev pub variant_name : List RenameRow → Option RenameRule → Tagging → VariantItem → Option (List ℕ)
variant_name rows rule Untagged v = Some v.ident.text
variant_name rows rule _ v = name_by Variant rows rule (value_of_variant v) v.ident

-- no two of these names are equal, where names tell variants apart
abbrev pub are_told : Tagging → List (List ℕ) → Bool
are_told tagging names = are_distinct (telling tagging names)

-- the name, where the identifier stands
abbrev pub variant_ident : List RenameRow → Option RenameRule → Tagging → VariantItem → Option Ident
variant_ident rows rule tagging v = option_map (named_at v.ident) (variant_name rows rule tagging v)

-- the names that tell variants apart, where their identifiers stand
abbrev pub telling_idents : List RenameRow → Option RenameRule → Tagging → List VariantItem → List Ident
telling_idents rows rule tagging vs = telling tagging (filter_map (variant_ident rows rule tagging) vs)

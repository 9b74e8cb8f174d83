-- What serde's and Rust's attributes say of the fields of a struct or a variant, and what these are called (serde.rs, "Field attributes", "Container attributes").
use Rattle.std.specs.Prelude.{ℕ, List, Bool, ◌&&◌, is_ok, Option, option_map, option_and_then, filter_map, codes}
use Rattle.std.specs.List.{list_any, list_all}
use Rattle.diag.specs.declared.rename_rule.RenameRule.{RenameRule}
use Rattle.diag.specs.declared.rename_row.RenameRow.{RenameRow}
use Rattle.diag.specs.declared.rename_row.RenamePlace.TheVariants.{Field}
use Rattle.written_types.specs.declared.written.Ident.{Ident}
use Rattle.attributes.specs.Attributes.{AttributeItem, is_word}
use Rattle.attributes.specs.declared.serde_item.SerdeItem.{SerdeItem}
use Rattle.serde_rules.specs.declared.container.SerdeContainer.{SerdeContainer}
use Rattle.serde_rules.specs.Items.{has_item}
use Rattle.serde_rules.specs.Container.{representation, rename_rule, names_known_rule}
use Rattle.syntax.specs.Items.{FieldItem}
use Rattle.serde_names.specs.Kept.{value_of}
use Rattle.serde_names.specs.Names.{name_by, named_at}

-- Rust's attribute `deprecated`
abbrev pub is_deprecated : List AttributeItem → Bool
is_deprecated attributes = list_any (λ a. is_word (codes "deprecated") a.path) attributes

-- what serde's items before a struct or a variant say of its fields: the rule of their names, whether each may be absent, and whether members that no field has are refused
pub record FieldRules : Type 0 where
  pub rule : Option RenameRule
  pub default : Bool
  pub denies : Bool

abbrev pub field_rules : List SerdeItem → FieldRules
field_rules items = record { rule = rename_rule items; default = has_item (codes "default") items; denies = has_item (codes "deny_unknown_fields") items }

-- serde's items before a struct, a variant or an enum say rules: none contradicts those before it, nor names a rename rule that there is not
abbrev pub are_allowed : List SerdeItem → Bool
are_allowed items = is_ok (representation items) && list_all names_known_rule items

-- what the program's rules of a struct or a variant say of its fields
abbrev pub rules_view : SerdeContainer → FieldRules
rules_view rules = record { rule = rules.rename_all; default = rules.default; denies = rules.deny_unknown_fields }

-- the name of a field in JSON, by the rule of its struct or variant
abbrev pub written_name : List RenameRow → Option RenameRule → FieldItem → Ident → Option (List ℕ)
written_name rows rule f x = name_by Field rows rule (value_of f) x

-- the name, where the identifier stands
abbrev pub written_ident : List RenameRow → Option RenameRule → FieldItem → Option Ident
written_ident rows rule f = option_and_then (λ x. option_map (named_at x) (written_name rows rule f x)) f.ident

-- the names of fields in JSON, where their identifiers stand
abbrev pub written_idents : List RenameRow → Option RenameRule → List FieldItem → List Ident
written_idents rows rule fs = filter_map (written_ident rows rule) fs

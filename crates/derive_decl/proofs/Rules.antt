-- What the program reads of serde's items before a struct.
use Rattle.std.proofs.Common.{◌≡◌, List, true, is_ok, ap}
use Rattle.std.specs.List.{list_all}
use Rattle.std.proofs.lemmas.Bool.{and_from}
use Rattle.attributes.specs.declared.serde_item.SerdeItem.{SerdeItem}
use Rattle.serde_rules.specs.declared.container.SerdeContainer.{SerdeContainer}
use Rattle.serde_rules.specs.Container.{representation, names_known_rule, AreContainerRules}
use Rattle.derive_decl.specs.Fields.{field_rules, rules_view, are_allowed}

pub rules_are : (items : List SerdeItem) (rules : SerdeContainer) → AreContainerRules items rules → rules_view rules ≡ field_rules items
rules_are items rules are = λ i. record { rule = are.rename_all i; default = are.default i; denies = are.deny_unknown_fields i }

-- items that say rules are allowed
pub rules_allowed : (items : List SerdeItem) (rules : SerdeContainer) → AreContainerRules items rules → are_allowed items ≡ true
rules_allowed items rules are = and_from (is_ok (representation items)) (list_all names_known_rule items) (ap is_ok are.enum_repr) are.known

-- What serde's items say of a struct or an enum (serde.rs, "Container attributes", "Enum representations").
use Rattle.std.specs.Prelude.{◌≡◌, ◌⊎◌, ℕ, List, [], ◌∷◌, ◌++◌, Bool, true, cond, IsTrue, Option, Some, None, is_some, IsSomeAnd, Result, Ok, Err, fold, find, bytes_eq, codes}
use Rattle.std.specs.List.{list_all, join_by}
use Rattle.std.specs.Option.{option_and_then, option_map_or}
use Rattle.diag.specs.Refusal.{IsRefusal}
use Rattle.diag.specs.declared.error.DeriveError.{DeriveError}
use Rattle.diag.specs.declared.kind.Kind.TheVariants.{BadValue, SerdeTag}
use Rattle.texts.specs.declared.span.Span.{Span}
use Rattle.attributes.specs.declared.serde_item.SerdeItem.{SerdeItem}
use Rattle.attributes.specs.declared.serde_item.SerdeText.{SerdeText}
use Rattle.diag.specs.RenameRules.{name_of}
use Rattle.diag.specs.declared.rename_rule.RenameRule.{RenameRule}
use Rattle.diag.specs.declared.rename_rule.RenameRule.TheVariants.{Lower, Upper, Pascal, Camel, Snake, ScreamingSnake, Kebab, ScreamingKebab}
use Rattle.serde_rules.specs.declared.container.SerdeContainer.{SerdeContainer}
use Rattle.serde_rules.specs.declared.enum_repr.SerdeEnumRepr.{SerdeEnumRepr}
use Rattle.serde_rules.specs.declared.enum_repr.SerdeEnumRepr.TheVariants.{ExternallyTagged, InternallyTagged, AdjacentlyTagged, Untagged, UnfinishedAdjacentlyTagged}
use Rattle.serde_rules.specs.Items.{is_named, literal_for, text_for, has_item, last_text}

-- ---- how enums are represented

-- why an item cannot stand where it does, and the place of its literal
pub record TagFault : Type 0 where
  pub message : List ℕ
  pub span : Span

abbrev pub fault : List ℕ → SerdeText → Result SerdeEnumRepr TagFault
fault message literal = Err (record { message = message; span = literal.span })

-- after `tag = t`
abbrev pub with_tag : SerdeText → SerdeEnumRepr → Result SerdeEnumRepr TagFault
with_tag t ExternallyTagged = Ok (InternallyTagged t.text)
with_tag t (InternallyTagged tag) = fault (codes "Duplicate serde tag argument") t
with_tag t (UnfinishedAdjacentlyTagged content) = Ok (AdjacentlyTagged t.text content)
with_tag t (AdjacentlyTagged tag content) = fault (codes "Duplicate serde tag argument") t
with_tag t Untagged = fault (codes "Untagged enum cannot have tag") t

-- after `content = c`
abbrev pub with_content : SerdeText → SerdeEnumRepr → Result SerdeEnumRepr TagFault
with_content c ExternallyTagged = Ok (UnfinishedAdjacentlyTagged c.text)
with_content c (InternallyTagged tag) = Ok (AdjacentlyTagged tag c.text)
with_content c (UnfinishedAdjacentlyTagged content) = fault (codes "Duplicate serde content argument") c
with_content c (AdjacentlyTagged tag content) = fault (codes "Duplicate serde content argument") c
with_content c Untagged = fault (codes "Untagged enum cannot have content") c

abbrev pub with_literals : Option SerdeText → Option SerdeText → SerdeEnumRepr → Result SerdeEnumRepr TagFault
with_literals (Some t) content repr = with_tag t repr
with_literals None (Some c) repr = with_content c repr
with_literals None None repr = Ok repr

-- after one item more
abbrev pub with_item : SerdeItem → SerdeEnumRepr → Result SerdeEnumRepr TagFault
with_item item repr = cond (is_named (codes "untagged") item) (Ok Untagged) (with_literals (literal_for (codes "tag") item) (literal_for (codes "content") item) repr)

abbrev pub further : Result SerdeEnumRepr TagFault → SerdeItem → Result SerdeEnumRepr TagFault
further (Ok repr) item = with_item item repr
further (Err why) item = Err why

-- after all items, from the left
abbrev pub representation : List SerdeItem → Result SerdeEnumRepr TagFault
representation items = fold further (Ok ExternallyTagged) items

-- ---- rename rules

abbrev pub all_rules : List RenameRule
all_rules = Lower ∷ Upper ∷ Pascal ∷ Camel ∷ Snake ∷ ScreamingSnake ∷ Kebab ∷ ScreamingKebab ∷ []

abbrev pub rule_named : List ℕ → Option RenameRule
rule_named text = find (λ rule. bytes_eq (name_of rule) text) all_rules

-- the rule that the last name of a rule names
abbrev pub rename_rule : List SerdeItem → Option RenameRule
rename_rule items = option_and_then rule_named (last_text (codes "rename_all") items)

abbrev pub quoted_name : RenameRule → List ℕ
quoted_name rule = 34 ∷ name_of rule ++ 34 ∷ []

abbrev pub unknown_rule : List ℕ
unknown_rule = codes "unexpected rename rule, expected one of: " ++ join_by quoted_name (codes ", ") all_rules

-- an item names a rename rule that there is, or none
abbrev pub names_known_rule : SerdeItem → Bool
names_known_rule item = option_map_or (λ text. is_some (rule_named text)) (text_for (codes "rename_all") item) true

-- ---- the whole

pub record AreContainerRules (items : List SerdeItem) (rules : SerdeContainer) : Type 0 where
  pub rename_all : rules.rename_all ≡ rename_rule items
  pub known : IsTrue (list_all names_known_rule items)
  pub enum_repr : representation items ≡ Ok rules.enum_repr
  pub default : rules.default ≡ has_item (codes "default") items
  pub deny_unknown_fields : rules.deny_unknown_fields ≡ has_item (codes "deny_unknown_fields") items

abbrev pub IsTagRefusal : Result SerdeEnumRepr TagFault → DeriveError → Type 0
IsTagRefusal (Ok repr) e = ⊥
IsTagRefusal (Err why) e = IsRefusal SerdeTag why.span why.message e

-- the item names a rename rule that there is not
abbrev pub IsRuleRefusal : SerdeItem → DeriveError → Type 0
IsRuleRefusal item e = IsSomeAnd (literal_for (codes "rename_all") item) (λ literal. (rule_named literal.text ≡ None) × IsRefusal BadValue literal.span unknown_rule e)

-- the error refuses an item behind others: it contradicts the rules that they say, or names a rename rule that there is not
abbrev pub IsItemRefusal : SerdeContainer → SerdeItem → DeriveError → Type 0
IsItemRefusal so_far item e = IsTagRefusal (with_item item so_far.enum_repr) e ⊎ IsRuleRefusal item e

-- the error refuses the first item at fault, from the left: those before it say rules, so that none of them is
abbrev pub IsContainerRefusal : List SerdeItem → DeriveError → Type 0
IsContainerRefusal items e =
    (before : List SerdeItem) × (item : SerdeItem) × (behind : List SerdeItem) × (items ≡ before ++ item ∷ behind)
    × (so_far : SerdeContainer) × AreContainerRules before so_far × IsItemRefusal so_far item e

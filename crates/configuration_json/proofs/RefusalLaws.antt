-- Why a value says no configuration.
use Rattle.std.proofs.Common.{◌≡◌, ℕ, List, codes, subst}
use Rattle.serde_json.specs.Data.{Data}
use Rattle.serde_json.specs.Find.{get}
use Rattle.written_types.specs.Written.{Written}
use Rattle.type_grammar.specs.Source.{ReadsType}
use Rattle.configuration.specs.Configuration.{Alias, Configuration}
use Rattle.configuration.specs.Aliases.{AreDeep}
use Rattle.configuration_json.specs.Form.{SaysOthers, IsConfiguration, HasForm, HasBadRow, HasDeepAliases}
use Rattle.configuration_json.proofs.OneLaws.{one_said_aliases}
use Rattle.configuration_json.proofs.RowLaws.{given_are_texts, given_lack_none}

-- what is said of all but the aliases is said whatever these are
pub with_aliases : (value : Data) (c : Configuration) (xs : List Alias) → SaysOthers value c → SaysOthers value (record c { aliases = xs })
with_aliases value c xs s = record { members = s.members; version = s.version; limit = s.limit; copies = s.copies; collect = s.collect; renames = s.renames; empty = s.empty }

-- what says a configuration is of the stated form
has_form : (value : Data) (c : Configuration) → IsConfiguration value c → HasForm value
has_form value c says = ((c, says.others), given_are_texts (get (codes "aliases") value) c.aliases says.aliases)

-- what is not of the form, has an alias that is no type, or aliases that are too deep, says none
pub formless : (value : Data) → (HasForm value → ⊥) → (c : Configuration) → IsConfiguration value c → ⊥
formless value none c says = none (has_form value c says)

pub rowless : (value : Data) → HasBadRow value → (c : Configuration) → IsConfiguration value c → ⊥
rowless value bad c says = given_lack_none (get (codes "aliases") value) c.aliases says.aliases bad.1

pub too_deep : ((text : List ℕ) (t u : Written) → ReadsType text t → ReadsType text u → t ≡ u) → (value : Data) → HasDeepAliases value → (c : Configuration) → IsConfiguration value c → ⊥
too_deep one_type value deep c says = says.shallow (subst AreDeep (one_said_aliases one_type value deep.0.aliases c.aliases deep.2 says.aliases) deep.3)

-- Which part of a configuration's text is at fault, and what each part may be.
use Rattle.std.specs.Prelude.{◌≡◌, ℕ, List, [], Option, Some, None, IfSome, codes}
use Rattle.serde_json.specs.Data.{Data, array, object, no_members, no_items}
use Rattle.serde_json.specs.Find.{get}
use Rattle.diag.specs.declared.rename_row.RenameRow.{RenameRow}
use Rattle.configuration.specs.declared.collect.SchemaCollect.{SchemaCollect as Collect}
use Rattle.configuration.specs.declared.collect.SchemaCollect.TheVariants.{NonInlined}
use Rattle.configuration_json.specs.declared.part.ConfigPart.{ConfigPart}
use Rattle.configuration_json.specs.declared.part.ConfigPart.TheVariants.{Text, Members, Version, Limit, Copies, SchemaCollect, Renames, Aliases, Schemas, Defaults}
use Rattle.configuration_json.specs.Form.{IsObjectOf, SaysOrDefault, IsWhole, IsCollect, IsRenames, HoldsTexts, HasForm, IsJson, configuration_members}

-- The part of the value is not of the stated form. The text is at fault only where it says no value.
abbrev pub IsFaultyIn : Data → ConfigPart → Type 0
IsFaultyIn value Text = ⊥
IsFaultyIn value Members = ¬ (IsObjectOf configuration_members value)
IsFaultyIn value Version = ¬ (SaysOrDefault (IsWhole 1 1) 1 (get (codes "version") value) 1)
IsFaultyIn value Limit = (n : ℕ) → ¬ (SaysOrDefault (IsWhole 1 4096) 1000 (get (codes "limit") value) n)
IsFaultyIn value Copies = (n : ℕ) → ¬ (SaysOrDefault (IsWhole 1 100000) 10000 (get (codes "copies") value) n)
IsFaultyIn value SchemaCollect = (collect : Collect) → ¬ (SaysOrDefault IsCollect NonInlined (get (codes "schema_collect") value) collect)
IsFaultyIn value Renames = (rows : List RenameRow) → ¬ (SaysOrDefault IsRenames [] (get (codes "renames") value) rows)
IsFaultyIn value Aliases = ¬ (IfSome (get (codes "aliases") value) HoldsTexts)
IsFaultyIn value Schemas = ¬ (IfSome (get (codes "schemas") value) (λ given. given ≡ object no_members))
IsFaultyIn value Defaults = ¬ (IfSome (get (codes "defaults") value) (λ given. given ≡ array no_items))

-- the part of a configuration's text that is at fault, or none where the text is of the stated form
abbrev pub IsFaultyPart : List ℕ → Option ConfigPart → Type 0
IsFaultyPart bytes None = (value : Data) × IsJson bytes value × HasForm value
IsFaultyPart bytes (Some Text) = (value : Data) → ¬ (IsJson bytes value)
IsFaultyPart bytes (Some part) = (value : Data) × IsJson bytes value × IsFaultyIn value part

-- ---- what a part may be

abbrev pub members_help : List ℕ
members_help = codes "it is a JSON object of the members version, limit, copies, schema_collect, renames, aliases, schemas, defaults"

abbrev pub part_help : ConfigPart → List ℕ
part_help Text = members_help
part_help Members = members_help
part_help Version = codes "`version` is 1"
part_help Limit = codes "`limit` is a whole number from 1 to 4096"
part_help Copies = codes "`copies` is a whole number from 1 to 100000"
part_help SchemaCollect = codes "`schema_collect` is \"NonInlined\" or \"All\""
part_help Renames = codes "`renames` is a list of rows, each an object with the texts rule, place, from and to"
part_help Aliases = codes "`aliases` is an object of texts"
part_help Schemas = codes "`schemas` is an empty object"
part_help Defaults = codes "`defaults` is an empty list"

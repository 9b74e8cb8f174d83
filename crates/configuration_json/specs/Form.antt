-- The form of a configuration as JSON (RFC 8259), over the values that serde_json reads from texts.
use Rattle.std.specs.Prelude.{◌≡◌, ◌⊎◌, ℕ, ◌≤◌, List, [], ◌∷◌, length, Option, Some, None, IfSome, IsSomeAnd, IsTrue, IsUtf8, bytes_eq, codes}
use Rattle.std.specs.List.{list_all, list_any}
use Rattle.serde_json.specs.Data.{Data, number, unsigned, string, array, object, Items, no_items, item, Members, no_members, member}
use Rattle.serde_json.specs.Find.{get}
use Rattle.serde_json.specs.Read.{read}
use Rattle.diag.specs.Refusal.{IsRefusal}
use Rattle.texts.specs.Span.{no_span}
use Rattle.diag.specs.declared.error.DeriveError.{DeriveError}
use Rattle.diag.specs.declared.kind.Kind.TheVariants.{BadConfig, AliasDepth}
use Rattle.diag.specs.declared.rename_row.RenameRow.{RenameRow}
use Rattle.diag.specs.RenameRules.{name_of}
use Rattle.written_types.specs.Written.{Written}
use Rattle.type_grammar.specs.Source.{ReadsType}
use Rattle.configuration.specs.declared.collect.SchemaCollect.{SchemaCollect}
use Rattle.configuration.specs.declared.collect.SchemaCollect.TheVariants.{NonInlined, All}
use Rattle.configuration.specs.Configuration.{Alias, Configuration, place_name}
use Rattle.configuration.specs.Aliases.{AreDeep, IsTypeText, IsBadRow}

-- ---- members

abbrev pub names_of : Members → List (List ℕ)
names_of no_members = []
names_of (member name value ms) = name ∷ names_of ms

-- an object whose members all have names among these
abbrev pub IsObjectOf : List (List ℕ) → Data → Type 0
IsObjectOf names (object ms) = IsTrue (list_all (λ name. list_any (bytes_eq name) names) (names_of ms))
IsObjectOf names _ = ⊥

-- what a member says, or its default where it is absent
abbrev pub SaysOrDefault : {A : Type 0} → (Data → A → Type 0) → A → Option Data → A → Type 0
SaysOrDefault says default None x = x ≡ default
SaysOrDefault says default (Some value) x = says value x

-- a whole number from the least to the most; `10.0` and `-0` are no whole numbers
abbrev pub IsWhole : ℕ → ℕ → Data → ℕ → Type 0
IsWhole least most value n = (value ≡ number (unsigned n)) × (least ≤ n) × (n ≤ most)

abbrev pub collect_name : SchemaCollect → List ℕ
collect_name NonInlined = codes "NonInlined"
collect_name All = codes "All"

abbrev pub IsCollect : Data → SchemaCollect → Type 0
IsCollect value collect = value ≡ string (collect_name collect)

-- ---- renames

abbrev pub row_members : List (List ℕ)
row_members = codes "rule" ∷ codes "place" ∷ codes "from" ∷ codes "to" ∷ []

-- an object that has each member of a row and no other, and says this row
pub record IsRow (value : Data) (row : RenameRow) : Type 0 where
  pub members : IsObjectOf row_members value
  pub rule : get (codes "rule") value ≡ Some (string (name_of row.rule))
  pub place : get (codes "place") value ≡ Some (string (place_name row.place))
  pub from : get (codes "from") value ≡ Some (string row.from)
  pub to : get (codes "to") value ≡ Some (string row.to)

-- each of the items says one of the rows, in order
abbrev pub AreRows : Items → List RenameRow → Type 0
AreRows no_items [] = Unit {0}
AreRows (item value items) (row ∷ rows) = IsRow value row × AreRows items rows
AreRows _ _ = ⊥

abbrev pub IsRenames : Data → List RenameRow → Type 0
IsRenames (array items) rows = AreRows items rows
IsRenames _ rows = ⊥

-- ---- aliases

-- the value is a text that reads as this type, where `Reads` says which texts do
abbrev pub SaysTypeBy : (Reads : List ℕ → Written → Type 0) → Data → Written → Type 0
SaysTypeBy Reads (string text) t = Reads text t
SaysTypeBy Reads _ t = ⊥

-- each of the members says one of the aliases, in order: its name, and as its value the type
abbrev pub AreMembersBy : (Reads : List ℕ → Written → Type 0) → Members → List Alias → Type 0
AreMembersBy Reads no_members [] = Unit {0}
AreMembersBy Reads (member name value ms) (a ∷ rest) = (a.name ≡ name) × SaysTypeBy Reads value a.of × AreMembersBy Reads ms rest
AreMembersBy Reads _ _ = ⊥

abbrev pub AreAliasesBy : (Reads : List ℕ → Written → Type 0) → Data → List Alias → Type 0
AreAliasesBy Reads (object ms) aliases = AreMembersBy Reads ms aliases
AreAliasesBy Reads _ aliases = ⊥

-- the same, where texts that nest too deep are no types
abbrev pub SaysType : Data → Written → Type 0
SaysType value t = SaysTypeBy IsTypeText value t

abbrev pub AreMembers : Members → List Alias → Type 0
AreMembers ms aliases = AreMembersBy IsTypeText ms aliases

abbrev pub AreAliases : Data → List Alias → Type 0
AreAliases value aliases = AreAliasesBy IsTypeText value aliases

-- the members' values are texts, of types or not
abbrev pub AreTexts : Members → Type 0
AreTexts no_members = Unit {0}
AreTexts (member name (string text) ms) = AreTexts ms
AreTexts (member name _ ms) = ⊥

abbrev pub HoldsTexts : Data → Type 0
HoldsTexts (object ms) = AreTexts ms
HoldsTexts _ = ⊥

-- one of the members says no type
abbrev pub LackType : Members → Type 0
LackType no_members = ⊥
LackType (member name value ms) = ((t : Written) → ¬ (SaysType value t)) ⊎ LackType ms

abbrev pub LacksType : Data → Type 0
LacksType (object ms) = LackType ms
LacksType _ = ⊥

-- ---- the whole

abbrev pub configuration_members : List (List ℕ)
configuration_members =
    codes "version" ∷ codes "limit" ∷ codes "copies" ∷ codes "schema_collect" ∷ codes "renames" ∷ codes "aliases" ∷ codes "schemas"
    ∷ codes "defaults" ∷ []

-- the members that say nothing yet
pub record KeepsEmpty (value : Data) : Type 0 where
  pub schemas : IfSome (get (codes "schemas") value) (λ given. given ≡ object no_members)
  pub defaults : IfSome (get (codes "defaults") value) (λ given. given ≡ array no_items)

-- an object of these members, each of which may be absent, that says all of this configuration but its aliases
pub record SaysOthers (value : Data) (c : Configuration) : Type 0 where
  pub members : IsObjectOf configuration_members value
  pub version : SaysOrDefault (IsWhole 1 1) 1 (get (codes "version") value) 1
  pub limit : SaysOrDefault (IsWhole 1 4096) 1000 (get (codes "limit") value) c.limit
  pub copies : SaysOrDefault (IsWhole 1 100000) 10000 (get (codes "copies") value) c.copies
  pub collect : SaysOrDefault IsCollect NonInlined (get (codes "schema_collect") value) c.collect
  pub renames : SaysOrDefault IsRenames [] (get (codes "renames") value) c.renames
  pub empty : KeepsEmpty value

-- the member `aliases` says these, or is absent and there are none
abbrev pub SaysAliasesBy : (Reads : List ℕ → Written → Type 0) → Data → List Alias → Type 0
SaysAliasesBy Reads value aliases = SaysOrDefault (AreAliasesBy Reads) [] (get (codes "aliases") value) aliases

abbrev pub SaysAliases : Data → List Alias → Type 0
SaysAliases value aliases = SaysAliasesBy IsTypeText value aliases

-- the value says this configuration
pub record SaysConfiguration (value : Data) (c : Configuration) : Type 0 where
  pub others : SaysOthers value c
  pub aliases : SaysAliasesBy ReadsType value c.aliases

-- the value says this configuration, of whose aliases no text nests too deep and no 33 stand in each other
pub record IsConfiguration (value : Data) (c : Configuration) : Type 0 where
  pub others : SaysOthers value c
  pub aliases : SaysAliases value c.aliases
  pub shallow : ¬ (AreDeep c.aliases)

-- a text of at most 1,048,576 bytes that serde_json reads as the value
pub record IsJson (bytes : List ℕ) (value : Data) : Type 0 where
  pub short : length bytes ≤ 1048576
  pub utf8 : IsUtf8 bytes
  pub reads : read bytes ≡ Some value

-- a text whose value says this configuration, where `Says` tells which values do
pub record IsTextBy (Says : Data → Configuration → Type 0) (bytes : List ℕ) (c : Configuration) : Type 0 where
  pub value : Data
  pub json : IsJson bytes value
  pub says : Says value c

abbrev pub SaysInText : List ℕ → Configuration → Type 0
SaysInText bytes c = IsTextBy SaysConfiguration bytes c

abbrev pub IsConfigurationText : List ℕ → Configuration → Type 0
IsConfigurationText bytes c = IsTextBy IsConfiguration bytes c

-- ---- refusals

abbrev pub IsBadConfig : DeriveError → Type 0
IsBadConfig error = IsRefusal BadConfig no_span (codes "the configuration is not of the stated form") error

abbrev pub IsAliasDepth : DeriveError → Type 0
IsAliasDepth error = IsRefusal AliasDepth no_span (codes "aliases are replaced more than 32 times") error

-- The value is of the stated form: it says all but the aliases, and these are texts.
abbrev pub HasForm : Data → Type 0
HasForm value = ((c : Configuration) × SaysOthers value c) × IfSome (get (codes "aliases") value) HoldsTexts

-- of the stated form, but an alias is no type
abbrev pub HasBadRow : Data → Type 0
HasBadRow value = HasForm value × IsSomeAnd (get (codes "aliases") value) LacksType

-- of the stated form, and each alias is a type, but they are too deep
abbrev pub HasDeepAliases : Data → Type 0
HasDeepAliases value = (c : Configuration) × SaysOthers value c × SaysAliases value c.aliases × AreDeep c.aliases

-- the refusal of a value that says no configuration
abbrev pub IsRefusedConfiguration : Data → DeriveError → Type 0
IsRefusedConfiguration value error = (¬ (HasForm value) × IsBadConfig error) ⊎ (HasBadRow value × IsBadRow error) ⊎ (HasDeepAliases value × IsAliasDepth error)

-- the refusal of bytes that say none: they are no JSON, or too many, or refused for what they say
abbrev pub IsRefusedText : List ℕ → DeriveError → Type 0
IsRefusedText bytes error = (((value : Data) → ¬ (IsJson bytes value)) × IsBadConfig error) ⊎ ((value : Data) × IsJson bytes value × IsRefusedConfiguration value error)

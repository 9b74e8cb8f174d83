-- Fields in braces have names (The Rust Reference, "Structs": `StructFields`; "Enumerations": `EnumVariantStruct`).
use Rattle.std.specs.Prelude.{ℕ, List, IsSome}
use Rattle.std.specs.List.{AllByRecursion}
use Rattle.syntax.specs.Items.{FieldItem, FieldItems, named, unnamed, unit, BodyItem, struct_body, enum_body, DeclaredItem}
use Rattle.syntax.specs.Source.{Reads}

abbrev pub HasName : FieldItem → Type 0
HasName f = IsSome f.ident

abbrev pub HaveNames : FieldItems → Type 0
HaveNames (named fs) = AllByRecursion HasName fs
HaveNames (unnamed fs) = Unit {0}
HaveNames unit = Unit {0}

abbrev pub IsNamedBody : BodyItem → Type 0
IsNamedBody (struct_body fs) = HaveNames fs
IsNamedBody (enum_body vs) = AllByRecursion (λ v. HaveNames v.fields) vs

-- each field in braces has a name
abbrev pub AreNamed : List DeclaredItem → Type 0
AreNamed ds = AllByRecursion (λ d. IsNamedBody d.body) ds

-- The law: what is read has names for its fields in braces.
abbrev pub ReadFieldsAreNamed : Type 0
ReadFieldsAreNamed = (source : List ℕ) (ds : List DeclaredItem) → Reads source ds → AreNamed ds

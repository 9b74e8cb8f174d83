-- Declarations whose schema can say their whole shape: what stands in the places that they reach, and which variants their enums have.
use Rattle.std.specs.Prelude.{◌≡◌, ◌≢◌, List, [], ◌∷◌, Bool, false, Option, None, Some}
use Rattle.leaves.specs.Leaves.{kind_of}
use Rattle.leaves.specs.declared.leaf.LeafKind.TheVariants as kinds
use Rattle.open_types.specs.Open.{Open, Opens, leaf, any_value, free_object, tuple, items, set, map_of, option, through, named, no_types, more_types}
use Rattle.shapes.specs.Declarations.{FlattenedOf, FlattenedMapOf, FormOf, named_fields, unnamed_fields, no_fields, VariantOf, BodyOf, fields, units, numbers, variants, DeclarationOf, declaration_at, member_types}
use Rattle.shapes.specs.declared.tagging.Tagging.{Tagging}
use Rattle.shapes.specs.declared.tagging.Tagging.TheVariants.{External, Internal, Adjacent, Untagged}

-- an enum of which each value is the name of a variant
abbrev pub IsNames : BodyOf → Type 0
IsNames (units External names) = Unit {0}
IsNames _ = ⊥

-- what serde reads for a map's key is a text: a text, or the name of a variant, passed through perhaps
abbrev pub IsKey : List DeclarationOf → Open → Type 0
IsKey ss (leaf x) = kind_of x ≡ kinds.Text
IsKey ss (through h t) = IsKey ss t
IsKey ss (named d ts) = IsNames (declaration_at ss d).body
IsKey ss _ = ⊥

-- neither a float nor the unit stands in the type, and the keys of each map are texts
abbrev mutual
  pub IsPlainType : List DeclarationOf → Open → Type 0
  IsPlainType ss (leaf x) = kind_of x ≢ kinds.Float
  IsPlainType ss any_value = Unit {0}
  IsPlainType ss free_object = Unit {0}
  IsPlainType ss (tuple ts) = ArePlainTypes ss ts
  IsPlainType ss (items h t) = IsPlainType ss t
  IsPlainType ss (set h t) = IsPlainType ss t
  IsPlainType ss (map_of h k t) = IsKey ss k × IsPlainType ss k × IsPlainType ss t
  IsPlainType ss (option t) = IsPlainType ss t
  IsPlainType ss (through h t) = IsPlainType ss t
  IsPlainType ss (named d ts) = ArePlainTypes ss ts
  IsPlainType ss _ = ⊥

  pub ArePlainTypes : List DeclarationOf → Opens → Type 0
  ArePlainTypes ss no_types = Unit {0}
  ArePlainTypes ss (more_types t ts) = IsPlainType ss t × ArePlainTypes ss ts

abbrev pub AreAllPlain : List DeclarationOf → List Open → Type 0
AreAllPlain ss [] = Unit {0}
AreAllPlain ss (t ∷ ts) = IsPlainType ss t × AreAllPlain ss ts

-- other members may stand beside its own: none are denied, and no map is flattened into it
abbrev pub IsOpen : Bool → Option FlattenedMapOf → Type 0
IsOpen false None = Unit {0}
IsOpen _ _ = ⊥

-- a struct with named fields beside which others may stand
abbrev pub IsOpenStruct : BodyOf → Type 0
IsOpenStruct (fields (named_fields b ms)) = IsOpen b.denies b.map
IsOpenStruct _ = ⊥

-- a map that lets a tag stand among its own members: such a struct, passed through perhaps
abbrev pub IsContent : List DeclarationOf → Open → Type 0
IsContent ss (named d ts) = IsOpenStruct (declaration_at ss d).body
IsContent ss (through h t) = IsContent ss t
IsContent ss _ = ⊥

-- the variants have a tag
abbrev pub IsTagged : Tagging → Type 0
IsTagged (Internal tag) = Unit {0}
IsTagged (Adjacent tag content) = Unit {0}
IsTagged _ = ⊥

-- other members may stand beside the tag and those of the variant: what an adjacent content denies or flattens stands in a map of its own
abbrev pub IsOpenVariant : Tagging → FormOf → Type 0
IsOpenVariant (Internal tag) (named_fields b ms) = IsOpen b.denies b.map
IsOpenVariant _ _ = Unit {0}

abbrev pub AreOpenVariants : Tagging → List VariantOf → Type 0
AreOpenVariants tagging [] = Unit {0}
AreOpenVariants tagging (x ∷ xs) = IsOpenVariant tagging x.form × AreOpenVariants tagging xs

-- a map beside whose own members others may stand: such a struct, or an enum with a tag whose variants are open
abbrev pub IsOpenMap : BodyOf → Type 0
IsOpenMap (fields form) = IsOpenStruct (fields form)
IsOpenMap (units tagging names) = IsTagged tagging
IsOpenMap (numbers tagging ns) = IsTagged tagging
IsOpenMap (variants tagging xs) = IsTagged tagging × AreOpenVariants tagging xs

-- what is declared as such a map, passed through perhaps
abbrev pub CanBeFlattened : List DeclarationOf → Open → Type 0
CanBeFlattened ss (named d ts) = IsOpenMap (declaration_at ss d).body
CanBeFlattened ss (through h t) = CanBeFlattened ss t
CanBeFlattened ss _ = ⊥

-- any texts, passed through perhaps: the names of a flattened map
abbrev pub IsText : Open → Type 0
IsText (leaf x) = kind_of x ≡ kinds.Text
IsText (through h t) = IsText t
IsText _ = ⊥

abbrev pub AreFlattened : List DeclarationOf → List FlattenedOf → Type 0
AreFlattened ss [] = Unit {0}
AreFlattened ss (f ∷ fs) = (CanBeFlattened ss f.of × IsPlainType ss f.of) × AreFlattened ss fs

-- what is flattened is a map alone, or structs and enums alone, and nothing is denied beside it
abbrev pub IsPlainBeside : List DeclarationOf → Bool → List FlattenedOf → Option FlattenedMapOf → Type 0
IsPlainBeside ss denies [] None = Unit {0}
IsPlainBeside ss false [] (Some m) = IsText m.key × IsPlainType ss m.value
IsPlainBeside ss false (f ∷ fs) None = AreFlattened ss (f ∷ fs)
IsPlainBeside ss _ _ _ = ⊥

abbrev pub IsPlainForm : List DeclarationOf → FormOf → Type 0
IsPlainForm ss (named_fields b ms) = AreAllPlain ss (member_types ms) × IsPlainBeside ss b.denies b.flattened b.map
IsPlainForm ss (unnamed_fields ts) = AreAllPlain ss ts
IsPlainForm ss no_fields = ⊥

abbrev pub AreContent : List DeclarationOf → List Open → Type 0
AreContent ss (t ∷ []) = IsContent ss t
AreContent ss _ = ⊥

-- the tag can stand where the representation puts it
abbrev pub CanBeTagged : List DeclarationOf → Tagging → FormOf → Type 0
CanBeTagged ss (Internal tag) (unnamed_fields ts) = AreContent ss ts
CanBeTagged ss _ _ = Unit {0}

-- as of a struct, but a variant may have no fields
abbrev pub IsPlainVariant : List DeclarationOf → Tagging → FormOf → Type 0
IsPlainVariant ss tagging no_fields = Unit {0}
IsPlainVariant ss tagging (named_fields b ms) = IsPlainForm ss (named_fields b ms)
IsPlainVariant ss tagging (unnamed_fields ts) = IsPlainForm ss (unnamed_fields ts) × CanBeTagged ss tagging (unnamed_fields ts)

abbrev pub ArePlainVariants : List DeclarationOf → Tagging → List VariantOf → Type 0
ArePlainVariants ss tagging [] = Unit {0}
ArePlainVariants ss tagging (x ∷ xs) = IsPlainVariant ss tagging x.form × ArePlainVariants ss tagging xs

-- an untagged enum keeps a variant; the schema of one that keeps none accepts null, and no value has its shape
abbrev pub KeepsVariant : {A : Type 0} → Tagging → List A → Type 0
KeepsVariant Untagged [] = ⊥
KeepsVariant _ _ = Unit {0}

-- each value of the declaration is what its schema accepts, as far as its own places tell
abbrev pub IsPlainBody : List DeclarationOf → BodyOf → Type 0
IsPlainBody ss (fields form) = IsPlainForm ss form
IsPlainBody ss (units tagging names) = KeepsVariant tagging names
IsPlainBody ss (numbers tagging ns) = KeepsVariant tagging ns
IsPlainBody ss (variants tagging xs) = KeepsVariant tagging xs × ArePlainVariants ss tagging xs

-- The built-in names (The Rust Reference, "Primitive types"; OpenAPI 3.1, "Data Types").
use Rattle.std.specs.Prelude.{ℕ, List, [], ◌∷◌, Option, Some, None, bytes_eq, cond, codes}
use Rattle.leaves.specs.declared.leaf.Leaf.{Leaf}
use Rattle.leaves.specs.declared.leaf.Leaf.TheVariants.{String, Str, Char, Bool, I8, I16, I32, I64, I128, Isize, U8, U16, U32, U64, U128, Usize, F32, F64}
use Rattle.leaves.specs.declared.leaf.LeafKind.{LeafKind}
use Rattle.leaves.specs.declared.leaf.LeafKind.TheVariants.{Text, Boolean, Signed, Unsigned, Float}

-- the name, as it is written in a source
abbrev pub name_of : Leaf → List ℕ
name_of String = codes "String"
name_of Str = codes "str"
name_of Char = codes "char"
name_of Bool = codes "bool"
name_of I8 = codes "i8"
name_of I16 = codes "i16"
name_of I32 = codes "i32"
name_of I64 = codes "i64"
name_of I128 = codes "i128"
name_of Isize = codes "isize"
name_of U8 = codes "u8"
name_of U16 = codes "u16"
name_of U32 = codes "u32"
name_of U64 = codes "u64"
name_of U128 = codes "u128"
name_of Usize = codes "usize"
name_of F32 = codes "f32"
name_of F64 = codes "f64"

abbrev pub leaves : List Leaf
leaves =
    String ∷ Str ∷ Char ∷ Bool ∷ I8 ∷ I16 ∷ I32 ∷ I64 ∷ I128 ∷ Isize
    ∷ U8 ∷ U16 ∷ U32 ∷ U64 ∷ U128 ∷ Usize ∷ F32 ∷ F64 ∷ []

abbrev pub leaf_among : List ℕ → List Leaf → Option Leaf
leaf_among name [] = None
leaf_among name (l ∷ ls) = cond (bytes_eq name (name_of l)) (Some l) (leaf_among name ls)

-- the leaf of a name
abbrev pub leaf_of : List ℕ → Option Leaf
leaf_of name = leaf_among name leaves

-- what serde reads for a leaf
abbrev pub kind_of : Leaf → LeafKind
kind_of String = Text
kind_of Str = Text
kind_of Char = Text
kind_of Bool = Boolean
kind_of I8 = Signed
kind_of I16 = Signed
kind_of I32 = Signed
kind_of I64 = Signed
kind_of I128 = Signed
kind_of Isize = Signed
kind_of U8 = Unsigned
kind_of U16 = Unsigned
kind_of U32 = Unsigned
kind_of U64 = Unsigned
kind_of U128 = Unsigned
kind_of Usize = Unsigned
kind_of F32 = Float
kind_of F64 = Float

-- the word of `type`, as it is printed
abbrev pub word_of : LeafKind → List ℕ
word_of Text = codes "string"
word_of Boolean = codes "boolean"
word_of Signed = codes "integer"
word_of Unsigned = codes "integer"
word_of Float = codes "number"

-- the printed name of the format, where there is one
abbrev pub format_of : Leaf → Option (List ℕ)
format_of String = None
format_of Str = None
format_of Char = None
format_of Bool = None
format_of I8 = Some (codes "int32")
format_of I16 = Some (codes "int32")
format_of I32 = Some (codes "int32")
format_of I64 = Some (codes "int64")
format_of I128 = None
format_of Isize = None
format_of U8 = Some (codes "int32")
format_of U16 = Some (codes "int32")
format_of U32 = Some (codes "int32")
format_of U64 = Some (codes "int64")
format_of U128 = None
format_of Usize = None
format_of F32 = Some (codes "float")
format_of F64 = Some (codes "double")

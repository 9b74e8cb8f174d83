-- What the name of a type says of its values (The Rust Reference, "Primitive types"; OpenAPI 3.1, "Data Types").
use Rattle.std.specs.Prelude.{ℕ, Bool, true, false, List, Option, Some, None, cond}
use Rattle.schema_trees.specs.declared.tree.SchemaTypeInner.{SchemaTypeInner}
use Rattle.schema_trees.specs.declared.tree.SchemaTypeInner.TheVariants as word
use Rattle.schema_trees.specs.declared.tree.TypeWord.{TypeWord}
use Rattle.schema_trees.specs.declared.tree.TypeWord.TheVariants.{One, Nullable}
use Rattle.leaves.specs.Leaves.{leaf_of, kind_of}
use Rattle.leaves.specs.declared.leaf.Leaf.{Leaf}
use Rattle.leaves.specs.declared.leaf.LeafKind.{LeafKind}
use Rattle.leaves.specs.declared.leaf.LeafKind.TheVariants.{Text, Boolean, Signed, Unsigned, Float}

-- what is read for a name, where it is that of a leaf
abbrev pub kind_among : Option Leaf → Option LeafKind
kind_among None = None
kind_among (Some l) = Some (kind_of l)

abbrev pub kind_named : List ℕ → Option LeafKind
kind_named name = kind_among (leaf_of name)

abbrev pub is_leaf : Option LeafKind → Bool
is_leaf None = false
is_leaf (Some k) = true

abbrev pub is_whole : Option LeafKind → Bool
is_whole None = false
is_whole (Some Text) = false
is_whole (Some Boolean) = false
is_whole (Some Signed) = true
is_whole (Some Unsigned) = true
is_whole (Some Float) = false

abbrev pub is_unsigned : Option LeafKind → Bool
is_unsigned None = false
is_unsigned (Some Text) = false
is_unsigned (Some Boolean) = false
is_unsigned (Some Signed) = false
is_unsigned (Some Unsigned) = true
is_unsigned (Some Float) = false

-- whole numbers and floats
abbrev pub is_number : Option LeafKind → Bool
is_number None = false
is_number (Some Text) = false
is_number (Some Boolean) = false
is_number (Some Signed) = true
is_number (Some Unsigned) = true
is_number (Some Float) = true

-- the word of `type`: `object` for a name that is not a leaf's
abbrev pub word_of : Option LeafKind → SchemaTypeInner
word_of None = word.Object
word_of (Some Text) = word.String
word_of (Some Boolean) = word.Boolean
word_of (Some Signed) = word.Integer
word_of (Some Unsigned) = word.Integer
word_of (Some Float) = word.Number

-- the word, and `null` where it may be null
abbrev pub type_word : Bool → SchemaTypeInner → TypeWord
type_word nullable w = cond nullable (Nullable w) (One w)

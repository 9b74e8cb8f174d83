-- What the schemas of variants tell: which variant a value is that they accept (serde.rs, "Enum representations").
use Rattle.std.specs.Prelude.{◌≡◌, ℕ, ℤ, List, Bool, IsTrue}
use Rattle.acceptance.specs.Json.{Json, text, map, no_members, member}
use Rattle.schema_trees.specs.Annotations.{no_annotations}
use Rattle.schema_core.specs.Meaning.{tree_accepts}
use Rattle.component.specs.Leaves.{LeafOf}
use Rattle.shapes.specs.declared.tagging.Tagging.{Tagging}
use Rattle.shapes.specs.declared.tagging.Tagging.TheVariants.{External, Internal, Adjacent, Untagged}
use Rattle.shapes.specs.Declarations.{VariantOf}
use Rattle.shapes.specs.Shape.{is_the, is_that, has_member}
use Rattle.shapes.specs.Told.{tells}
use Rattle.terms.specs.Terms.{variant_term, tag_alone, number_alone}

-- The law: what the schema of a variant accepts tells the variant, whatever the leaves accept.
abbrev pub SchemasTell : Type 0
SchemasTell = (leaf_accepts : LeafOf → Json → Bool) (tagging : Tagging) (x : VariantOf) (v : Json) → IsTrue (tree_accepts leaf_accepts (variant_term tagging x) v) → IsTrue (tells tagging x.name v)

-- The law: what the schema of a tag alone accepts has the tag, whether it is a name or a number.
abbrev pub TagsTell : Type 0
TagsTell = (leaf_accepts : LeafOf → Json → Bool) (tag name : List ℕ) (v : Json) → IsTrue (tree_accepts leaf_accepts (tag_alone no_annotations tag name) v) → IsTrue (has_member tag (is_the name) v)

abbrev pub NumbersTell : Type 0
NumbersTell = (leaf_accepts : LeafOf → Json → Bool) (tag : List ℕ) (n : ℤ) (v : Json) → IsTrue (tree_accepts leaf_accepts (number_alone tag n) v) → IsTrue (has_member tag (is_that n) v)

-- the value tells one variant at most: with a tag each value does, else a text or a map of one member
abbrev pub TellsOne : Tagging → Json → Type 0
TellsOne External (text s) = Unit {0}
TellsOne External (map (member k x no_members)) = Unit {0}
TellsOne External _ = ⊥
TellsOne (Internal tag) v = Unit {0}
TellsOne (Adjacent tag content) v = Unit {0}
TellsOne Untagged v = ⊥

-- The law: a value that tells one variant at most tells one name alone.
abbrev pub HasOneName : Type 0
HasOneName = (tagging : Tagging) (a b : List ℕ) (v : Json) → TellsOne tagging v → IsTrue (tells tagging a v) → IsTrue (tells tagging b v) → a ≡ b

-- Attributes that derive serde's, utoipa's or serde_repr's traits (The Rust Reference, "Derive", "The cfg_attr attribute").
use Rattle.std.specs.Prelude.{ℕ, List, [], ◌∷◌, codes, Bool, false, ◌&&◌, ◌||◌}
use Rattle.std.specs.List.{list_any}
use Rattle.tokens.specs.declared.token.Bracket.TheVariants.{Round, Square}
use Rattle.tokens.specs.Trees.{Tree, group, Trees, end, ◌▸◌}
use Rattle.words.specs.Words.{is_among}
use Rattle.prepare.specs.Trees.{is_word}
use Rattle.prepare.specs.declared.traits.Traits.{Traits}
use Rattle.prepare.specs.declared.traits.Traits.TheVariants.{Serde, SerdeOrSchema, SerdeRepr}
use Rattle.prepare.specs.Names.{names_of}

-- the names of the traits
abbrev pub names_for : Traits → List (List ℕ)
names_for Serde = codes "Serialize" ∷ codes "Deserialize" ∷ []
names_for SerdeOrSchema = codes "Serialize" ∷ codes "Deserialize" ∷ codes "ToSchema" ∷ []
names_for SerdeRepr = codes "Serialize_repr" ∷ codes "Deserialize_repr" ∷ []

abbrev pub is_trait : Traits → List ℕ → Bool
is_trait traits name = is_among name (names_for traits)

abbrev pub is_any_trait : Traits → List (List ℕ) → Bool
is_any_trait traits names = list_any (is_trait traits) names

abbrev mutual
  -- among the trees one of the traits is derived: by `derive(..)` that names it, or in `cfg_attr(..)`
  pub derives : Traits → Trees → Bool
  derives traits end = false
  derives traits (t ▸ ts) = group_derives traits t ts || derives traits ts

  -- by the group that stands behind the tree
  pub group_derives : Traits → Tree → Trees → Bool
  group_derives traits t (group Round ts s ▸ us) =
      (is_word (codes "derive") t && is_any_trait traits (names_of ts)) || (is_word (codes "cfg_attr") t && derives traits ts)
  group_derives traits t _ = false

-- what stands behind the `#` of an attribute
abbrev pub is_deriving : Traits → Tree → Bool
is_deriving traits (group Square ts s) = derives traits ts
is_deriving traits _ = false

abbrev pub are_deriving : Traits → List Tree → Bool
are_deriving traits attributes = list_any (is_deriving traits) attributes

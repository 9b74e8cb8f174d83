-- The names in the types of a declaration's fields (The Rust Reference, "Structs", "Enumerations"; serde, "Field attributes",
-- "Variant attributes").
use Rattle.std.specs.Prelude.{ℕ, List, [], ◌∷◌, drop, codes, Bool, true, false, not, cond, ◌&&◌, ◌||◌, ◌==◌}
use Rattle.std.specs.List.{flat_map, list_any}
use Rattle.tokens.specs.Trees.{Tree}
use Rattle.prepare.specs.Trees.{is_word, is_sign, is_round, is_square, is_curly, inside, before}
use Rattle.prepare.specs.Attributes.{after_attributes, after_visibility}
use Rattle.prepare.specs.declared.previous.Behind.{Behind}
use Rattle.prepare.specs.declared.previous.Behind.TheVariants.{Other}
use Rattle.prepare.specs.Ends.{behind, angles}
use Rattle.prepare.specs.Names.{all_names}

-- ---- parts

-- a `,` ends a part, inside of no `<`
abbrev pub is_comma : ℕ → Tree → Bool
is_comma opened t = (opened == 0) && is_sign (codes ",") t

abbrev pub in_front : Tree → List (List Tree) → List (List Tree)
in_front t [] = (t ∷ []) ∷ []
in_front t (part ∷ others) = (t ∷ part) ∷ others

-- how many `<` are open after a tree among types; a discriminant opens none, since `<<` shifts
abbrev pub opened_after : (in_types : Bool) → Behind → ℕ → Tree → ℕ
opened_after in_types was opened t = cond in_types (angles was opened t) 0

-- what stands between the commas, in types those outside of `<` and `>`, and behind the last of them only where something does
abbrev pub parts_from : (in_types : Bool) → Behind → ℕ → List Tree → List (List Tree)
parts_from in_types was opened [] = []
parts_from in_types was opened (t ∷ ts) = cond (is_comma opened t) ([] ∷ parts_from in_types Other 0 ts) (in_front t (parts_from in_types (behind was t) (opened_after in_types was opened t) ts))

unfoldable pub parts : (in_types : Bool) → List Tree → List (List Tree)
parts in_types ts = parts_from in_types Other 0 ts

-- the trees from the first such comma on
abbrev pub from_comma : (in_types : Bool) → Behind → ℕ → List Tree → List Tree
from_comma in_types was opened [] = []
from_comma in_types was opened (t ∷ ts) = cond (is_comma opened t) (t ∷ ts) (from_comma in_types (behind was t) (opened_after in_types was opened t) ts)

-- ---- skipped

-- a schema has no member and no variant for what has one of these; what has the first has none for serde, too
abbrev pub is_skip : (wholly : Bool) → Tree → Bool
is_skip wholly t = is_word (codes "skip") t || (not wholly && (is_word (codes "skip_serializing") t || is_word (codes "skip_deserializing") t))

-- `serde(..)` with one of them, and that in square brackets
abbrev pub are_serde_skip : (wholly : Bool) → List Tree → Bool
are_serde_skip wholly (t ∷ u ∷ []) = is_word (codes "serde") t && is_round u && list_any (is_skip wholly) (inside u)
are_serde_skip wholly _ = false

abbrev pub is_serde_skip : (wholly : Bool) → Tree → Bool
is_serde_skip wholly t = is_square t && are_serde_skip wholly (inside t)

-- it is among the attributes
abbrev pub are_skipping : (wholly : Bool) → List Tree → Bool
are_skipping wholly attributes = list_any (is_serde_skip wholly) attributes

-- ---- fields and variants

-- attr* vis? name ":" type, unless it is skipped
abbrev pub named_names : List Tree → List (List ℕ)
named_names part =
    let start = after_attributes part in
    cond (are_skipping false (before part start)) [] (all_names (drop 2 (after_visibility start)))

-- attr* vis? type
abbrev pub unnamed_names : List Tree → List (List ℕ)
unnamed_names part = all_names (after_visibility (after_attributes part))

-- a group of fields: in curly brackets they have names, in round ones they have none
abbrev pub field_names : Tree → List (List ℕ)
field_names t = cond (is_curly t) (flat_map named_names (parts true (inside t))) (cond (is_round t) (flat_map unnamed_names (parts true (inside t))) [])

-- name fields?
abbrev pub content_names : List Tree → List (List ℕ)
content_names (name ∷ t ∷ ts) = field_names t
content_names _ = []

-- attr* name fields?, unless it is skipped
abbrev pub variant_names : List Tree → List (List ℕ)
variant_names part =
    let start = after_attributes part in
    cond (are_skipping false (before part start)) [] (content_names start)

-- a group of variants
abbrev pub variants_names : Tree → List (List ℕ)
variants_names t = cond (is_curly t) (flat_map variant_names (parts false (inside t))) []

-- the names in a declaration, from its keyword on, by what stands behind its name
abbrev pub declared_names : (keyword behind : List Tree) → List (List ℕ)
declared_names [] behind = []
declared_names (t ∷ ts) behind = cond (is_word (codes "enum") t) (flat_map variants_names behind) (flat_map field_names behind)

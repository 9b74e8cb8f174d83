-- What impls say by their heads, which stand in front of their blocks (The Rust Reference, "Implementations", "Paths").
use Rattle.std.specs.Prelude.{ℕ, List, [], ◌∷◌, codes, Bool, not, cond, ◌&&◌, ◌==◌, option_map, Option, Some, None}
use Rattle.tokens.specs.Trees.{Tree}
use Rattle.written_types.specs.declared.written.Ident.{Ident}
use Rattle.words.specs.Words.{word_of}
use Rattle.words.specs.Reading.{as_name}
use Rattle.prepare.specs.declared.serde_trait.SerdeTrait.{SerdeTrait}
use Rattle.prepare.specs.declared.serde_trait.SerdeTrait.TheVariants.{Serialize, Deserialize}
use Rattle.prepare.specs.declared.previous.Behind.{Behind}
use Rattle.prepare.specs.declared.previous.Behind.TheVariants.{Other}
use Rattle.prepare.specs.Trees.{is_word, is_sign, is_path_part}
use Rattle.prepare.specs.Ends.{behind, angles}

-- ---- outside of `<` and `>`

-- inside of as many `<`, a tree stands outside of `<` and `>`
abbrev pub is_outside : ℕ → Tree → Bool
is_outside opened t = (opened == 0) && not (is_sign (codes "<") t)

-- those of the trees that do, the first of which stands behind that, inside of as many `<`
abbrev pub outside_from : Behind → ℕ → List Tree → List Tree
outside_from was opened [] = []
outside_from was opened (t ∷ ts) =
    let others = outside_from (behind was t) (angles was opened t) ts in
    cond (is_outside opened t) (t ∷ others) others

unfoldable pub outside : List Tree → List Tree
outside ts = outside_from Other 0 ts

-- ---- what stands there

-- the trait that a word names
abbrev pub trait_of : Tree → Option SerdeTrait
trait_of t = cond (is_word (codes "Serialize") t) (Some Serialize) (cond (is_word (codes "Deserialize") t) (Some Deserialize) None)

-- the path of a type has words and `::`
abbrev pub is_type_part : Tree → Bool
is_type_part t = is_path_part t && not (is_word (codes "dyn") t)

abbrev pub newer : (found name : Option Ident) → Option Ident
newer found None = found
newer found (Some name) = Some name

-- the last name of the path that goes to `where` or to the end, or else the one found before; no other type has one
abbrev pub last_name : Option Ident → List Tree → Option Ident
last_name found [] = found
last_name found (t ∷ ts) = cond (is_word (codes "where") t) found (cond (is_type_part t) (last_name (newer found (as_name (word_of t))) ts) None)

-- the trait, and the name of the type that it is for
abbrev pub Implemented : Type 0
Implemented = SerdeTrait × Ident

abbrev pub implemented_for : SerdeTrait → Option Ident → Option Implemented
implemented_for k name = option_map (λ x. (k, x)) name

-- by a trait, if one stands in front and `for` behind it, or else by what stands later
abbrev pub implemented_by : List Tree → Option SerdeTrait → Option Implemented → Option Implemented
implemented_by [] seen later = later
implemented_by (t ∷ ts) None later = later
implemented_by (t ∷ ts) (Some k) later = cond (is_word (codes "for") t) (implemented_for k (last_name None ts)) later

-- by the first of serde's traits with a `for` behind it
abbrev pub implemented : List Tree → Option Implemented
implemented [] = None
implemented (t ∷ ts) = implemented_by ts (trait_of t) (implemented ts)

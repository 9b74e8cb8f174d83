-- The names of a declaration's parameters, which name nothing else in it (The Rust Reference, "Generic parameters").
use Rattle.std.specs.Prelude.{ℕ, List, [], ◌∷◌, ◌++◌, codes, Bool, true, not, cond, ◌&&◌, ◌||◌, is_some}
use Rattle.std.specs.List.{filter}
use Rattle.texts.specs.Names.{is_in}
use Rattle.tokens.specs.Trees.{Tree}
use Rattle.words.specs.Words.{word_of}
use Rattle.words.specs.Reading.{as_name}
use Rattle.prepare.specs.declared.previous.Behind.{Behind}
use Rattle.prepare.specs.declared.previous.Behind.TheVariants.{Other}
use Rattle.prepare.specs.Trees.{is_sign}
use Rattle.prepare.specs.Ends.{behind, angles}
use Rattle.prepare.specs.Fields.{is_comma}
use Rattle.prepare.specs.Names.{itself}
use Rattle.prepare.specs.Unread.{is_last}

-- a parameter begins behind a comma, and goes on to begin up to its name
abbrev pub begins_behind : (begins : Bool) → ℕ → Tree → Bool
begins_behind begins opened t = is_comma opened t || (begins && not (is_some (as_name (word_of t))))

-- its name is the first where it begins
abbrev pub parameters_from : (begins : Bool) → Behind → ℕ → List Tree → List (List ℕ)
parameters_from begins was opened [] = []
parameters_from begins was opened (t ∷ ts) =
    cond (is_last was opened t) []
    (cond begins (itself (as_name (word_of t))) [] ++ parameters_from (begins_behind begins opened t) (behind was t) (angles was opened t) ts)

-- those of a declaration, by what stands behind its name
abbrev pub parameters : List Tree → List (List ℕ)
parameters [] = []
parameters (t ∷ ts) = cond (is_sign (codes "<") t) (parameters_from true Other 0 ts) []

-- the names that are none of these
abbrev pub others_than : List (List ℕ) → List (List ℕ) → List (List ℕ)
others_than own names = filter (λ name. not (is_in name own)) names

-- What may restrict a visibility, and what goes to a semicolon (The Rust Reference, "Visibility and Privacy").
use Rattle.std.specs.Prelude.{List, [], ◌∷◌, Bool, true, false, cond, Option, Some, None, is_none}
use Rattle.words.specs.declared.vocabulary.Keyword.TheVariants as keywords
use Rattle.words.specs.declared.vocabulary.Sign.TheVariants.{Semicolon}
use Rattle.words.specs.Words.{Word, keyword, sign}

abbrev pub is_semicolon : Word → Bool
is_semicolon (sign Semicolon s) = true
is_semicolon _ = false

-- what follows the first `;`
abbrev pub after_semicolon : List Word → Option (List Word)
after_semicolon [] = None
after_semicolon (w ∷ ws) = cond (is_semicolon w) (Some ws) (after_semicolon ws)

abbrev pub is_end : List Word → Bool
is_end [] = true
is_end (w ∷ ws) = false

-- "crate" | "self" | "super" | "in" any*
abbrev pub restricts : Word → List Word → Bool
restricts (keyword keywords.Crate x) ws = is_end ws
restricts (keyword keywords.SelfValue x) ws = is_end ws
restricts (keyword keywords.Super x) ws = is_end ws
restricts (keyword keywords.In x) ws = is_none (after_semicolon ws)
restricts _ ws = false

abbrev pub is_restriction : List Word → Bool
is_restriction [] = false
is_restriction (w ∷ ws) = restricts w ws

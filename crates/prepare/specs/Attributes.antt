-- Attributes, doc comments and visibilities (The Rust Reference, "Attributes", "Comments", "Visibility and Privacy", "Conditional
-- compilation").
use Rattle.std.specs.Prelude.{ℕ, zero, suc, List, [], ◌∷◌, length, map, codes, Bool, true, false, cond, ◌&&◌, ◌||◌, Option, Some, None}
use Rattle.std.specs.List.{list_any}
use Rattle.tokens.specs.declared.token.Bracket.TheVariants.{Round}
use Rattle.tokens.specs.Trees.{Tree, group, Trees, end, ◌▸◌}
use Rattle.words.specs.Words.{word_of}
use Rattle.words.specs.Visibility.{is_restriction}
use Rattle.prepare.specs.Trees.{is_word, is_sign, is_inner_doc, is_outer_doc, is_round, is_square, inside}

-- what follows a square-group, and "!" square-group
abbrev pub square_at : List Tree → Option (List Tree)
square_at [] = None
square_at (t ∷ ts) = cond (is_square t) (Some ts) None

abbrev pub bang_at : List Tree → Option (List Tree)
bang_at [] = None
bang_at (t ∷ ts) = cond (is_sign (codes "!") t) (square_at ts) None

-- what follows outer-doc | "#" square-group, and inner-doc | "#" "!" square-group
abbrev pub attribute_at : List Tree → Option (List Tree)
attribute_at [] = None
attribute_at (t ∷ ts) = cond (is_outer_doc t) (Some ts) (cond (is_sign (codes "#") t) (square_at ts) None)

abbrev pub inner_at : List Tree → Option (List Tree)
inner_at [] = None
inner_at (t ∷ ts) = cond (is_inner_doc t) (Some ts) (cond (is_sign (codes "#") t) (bang_at ts) None)

-- what follows as many of them as there are
abbrev pub after_all_from : (List Tree → List Tree) → List Tree → Option (List Tree) → List Tree
after_all_from again ts None = ts
after_all_from again ts (Some rest) = again rest

abbrev pub after_all_within : (List Tree → Option (List Tree)) → ℕ → List Tree → List Tree
after_all_within one zero ts = ts
after_all_within one (suc n) ts = after_all_from (after_all_within one n) ts (one ts)

abbrev pub after_all : (List Tree → Option (List Tree)) → List Tree → List Tree
after_all one ts = after_all_within one (length ts) ts

unfoldable pub after_attributes : List Tree → List Tree
after_attributes ts = after_all attribute_at ts

unfoldable pub after_inner : List Tree → List Tree
after_inner ts = after_all inner_at ts

-- a group that restricts a visibility, as `(crate)`; `(Left, Right)` is none
abbrev pub is_scope : Tree → Bool
is_scope t = is_round t && is_restriction (map word_of (inside t))

-- what follows ("pub" scope?)?
abbrev pub after_scope : List Tree → List Tree
after_scope [] = []
after_scope (t ∷ ts) = cond (is_scope t) ts (t ∷ ts)

abbrev pub after_visibility : List Tree → List Tree
after_visibility [] = []
after_visibility (t ∷ ts) = cond (is_word (codes "pub") t) (after_scope ts) (t ∷ ts)

-- nothing follows, or a comma does
abbrev pub ends_predicate : Trees → Bool
ends_predicate end = true
ends_predicate (t ▸ ts) = is_sign (codes ",") t

abbrev mutual
  -- among the predicates, with commas between them, one asks for tests: `test`, or `all(..)` in which one does
  pub ask_for_tests : (begins : Bool) → Trees → Bool
  ask_for_tests begins end = false
  ask_for_tests begins (t ▸ ts) = (begins && asks_for_tests t ts) || ask_for_tests (is_sign (codes ",") t) ts

  -- the predicate does that the tree begins and these go on with
  pub asks_for_tests : Tree → Trees → Bool
  asks_for_tests t (group Round us s ▸ ts) = is_word (codes "all") t && (ends_predicate ts && ask_for_tests true us)
  asks_for_tests t ts = is_word (codes "test") t && ends_predicate ts

-- what stands in a group in round brackets asks for tests
abbrev pub round_asks : Tree → Bool
round_asks (group Round ts s) = ask_for_tests true ts
round_asks _ = false

-- `cfg(..)` that asks for tests, and that in square brackets
abbrev pub are_cfg_test : List Tree → Bool
are_cfg_test (t ∷ u ∷ []) = is_word (codes "cfg") t && round_asks u
are_cfg_test _ = false

abbrev pub is_cfg_test : Tree → Bool
is_cfg_test t = is_square t && are_cfg_test (inside t)

-- such a `cfg(..)` is among the attributes
abbrev pub is_for_tests : List Tree → Bool
is_for_tests attributes = list_any is_cfg_test attributes

-- How a suggestion reads, and its place among others.
use Rattle.std.specs.Prelude.{ℕ, List, ◌++◌, codes, insert}
use Rattle.std.specs.List.{position_or_len}
use Rattle.std.specs.Cmp.Lexicographic.{slice_cmp}
use Rattle.std.specs.Ordering.{nat_cmp, is_lt}
use Rattle.std.specs.declared.cmp.Ordering.{Ordering}
use Rattle.std.specs.declared.cmp.Ordering.TheVariants.{Less, Greater}
use Rattle.diag.specs.declared.suggestion.Suggestion.{Suggestion}
use Rattle.diag.specs.declared.suggestion.Suggestion.TheVariants.{Help, Note}

abbrev pub line_of : Suggestion → List ℕ
line_of (Help text) = codes "help = " ++ text
line_of (Note text) = codes "note = " ++ text

-- every help before every note, and texts by bytes
abbrev pub suggestion_cmp : Suggestion → Suggestion → Ordering
suggestion_cmp (Help a) (Help b) = slice_cmp nat_cmp a b
suggestion_cmp (Help a) (Note b) = Less
suggestion_cmp (Note a) (Help b) = Greater
suggestion_cmp (Note a) (Note b) = slice_cmp nat_cmp a b

-- the place before the first that comes after the suggestion, or the end
abbrev pub place_of : Suggestion → List Suggestion → ℕ
place_of suggestion others = position_or_len (λ other. is_lt (suggestion_cmp suggestion other)) others

-- the suggestions and one more, at its place
abbrev pub inserted : Suggestion → List Suggestion → List Suggestion
inserted suggestion others = insert others (place_of suggestion others) suggestion

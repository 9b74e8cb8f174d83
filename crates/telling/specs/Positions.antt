-- Positions in a text, as editors tell them.
use Rattle.std.specs.Prelude.{ℕ, suc, ◌-◌, List, [], ◌∷◌, ◌++◌, length, take, drop, codes, count_by, Bool, cond, ◌||◌, ◌==◌, nat_le, nat_lt}
use Rattle.std.specs.List.{list_any}
use Rattle.std.specs.Str.{bytes_eq}

abbrev pub is_feed : ℕ → Bool
is_feed b = b == 10

-- a byte of a text with which a character begins
abbrev pub begins_char : ℕ → Bool
begins_char b = nat_lt b 128 || nat_le 192 b

-- what stands behind the last line feed, and before the first
abbrev pub behind_feeds : List ℕ → List ℕ
behind_feeds [] = []
behind_feeds (b ∷ bs) = cond (list_any is_feed (b ∷ bs)) (behind_feeds bs) (b ∷ bs)

abbrev pub before_feed : List ℕ → List ℕ
before_feed [] = []
before_feed (b ∷ bs) = cond (is_feed b) [] (b ∷ before_feed bs)

-- the number of the offset's line, the number of its column, and the line
abbrev pub line_of : List ℕ → ℕ → ℕ
line_of text offset = suc (count_by is_feed (take offset text))

abbrev pub column_of : List ℕ → ℕ → ℕ
column_of text offset = suc (count_by begins_char (behind_feeds (take offset text)))

-- without a carriage return at its end
abbrev pub without_return : List ℕ → List ℕ
without_return line = cond (bytes_eq (drop (length line - 1) line) (codes "\r")) (take (length line - 1) line) line

abbrev pub text_of : List ℕ → ℕ → List ℕ
text_of text offset = without_return (behind_feeds (take offset text) ++ before_feed (drop offset text))

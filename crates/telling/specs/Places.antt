-- Where a part of a text stands in it.
use Rattle.std.specs.Prelude.{ℕ, suc, ◌+◌, List, take, drop, reverse, count_by, take_while, cond, not, chars, encode_utf8_all}
use Rattle.std.specs.List.{list_any}
use Rattle.telling.specs.Positions.{is_feed, begins_char, behind_feeds, line_of, column_of}
use Rattle.telling.specs.declared.part.Place.{Place}

-- the line and the column behind a text that begins in this line and at this column
abbrev pub line_behind : ℕ → List ℕ → ℕ
line_behind line text = line + count_by is_feed text

abbrev pub column_behind : ℕ → List ℕ → ℕ
column_behind column text =
    cond (list_any is_feed text) (suc (count_by begins_char (behind_feeds text))) (column + count_by begins_char text)

-- the line and the column, in its file, of an offset in the text that stands at a place
abbrev pub line_in : Place → List ℕ → ℕ → ℕ
line_in place text at = line_behind place.line (take at text)

abbrev pub column_in : Place → List ℕ → ℕ → ℕ
column_in place text at = column_behind place.column (take at text)

-- of the line that begins with these characters, and of the one that ends with them, the nearest, at most so many
abbrev pub line_front : ℕ → List ℕ → List ℕ
line_front most cs = take most (take_while (λ c. not (is_feed c)) cs)

abbrev pub line_back : ℕ → List ℕ → List ℕ
line_back most cs = reverse (line_front most (reverse cs))

-- where the part from `start` to `end` stands, with the last 200 characters in front of it in its first line and the
-- first 200 behind it in its last
abbrev pub place_between : List ℕ → ℕ → ℕ → Place
place_between text start end =
    record {
      line = line_of text start;
      column = column_of text start;
      before = encode_utf8_all (line_back 200 (chars (take start text)));
      behind = encode_utf8_all (line_front 200 (chars (drop end text)));
    }

-- Faults of many files, as compilers tell them: the path, the line and the column, what is said, and the line with marks.
use Rattle.std.specs.Prelude.{ℕ, ◌-◌, ◌^◌, List, [], ◌∷◌, ◌++◌, ◌==◌, nat_le, length, take, drop, min, max, cond, false, sum_by, chars, codes, unwrap_or, Option, Some, None, count_by}
use Rattle.std.specs.List.{repeat, flat_map}
use Rattle.std.specs.Fmt.{decimal}
use Rattle.unicode_width.specs.Width.{char_width}
use Rattle.texts.specs.declared.span.Span.{Span}
use Rattle.telling.specs.Positions.{begins_char, without_return}
use Rattle.telling.specs.Printable.{is_command, shown, escaped, printable}
use Rattle.telling.specs.Places.{line_in, column_in, line_front, line_back}
use Rattle.telling.specs.declared.part.Place.{Place}
use Rattle.telling.specs.declared.told.Shown.{Shown}
use Rattle.telling.specs.declared.told.Told.{Told}

-- the columns that a character takes in a terminal, as it is shown
abbrev pub columns : ℕ → ℕ
columns c = cond (is_command c) (length (shown c)) (unwrap_or (char_width false c) 0)

-- what stands under a character: a tab under a tab, else a space for each of its columns
abbrev pub under : ℕ → List ℕ
under c = cond (c == 9) (9 ∷ []) (repeat (columns c) (codes " "))

-- under what stands in front, and a mark for each column of what is marked, but at least one
abbrev pub marks : (front marked : List ℕ) → List ℕ
marks front marked = flat_map under front ++ repeat (max (sum_by columns marked) 1) (codes "^")

-- how many characters of the text begin before the offset
abbrev pub begun : List ℕ → ℕ → ℕ
begun text at = count_by begins_char (take at text)

-- of the text's characters at a place: the last hundred before an offset in its line, and those from it on, as far as
-- 200 of the line are shown
abbrev pub in_front : Place → List ℕ → ℕ → List ℕ
in_front place text at = line_back 100 (chars place.before ++ take (begun text at) (chars text))

abbrev pub from_on : Place → List ℕ → ℕ → List ℕ
from_on place text at =
    line_front (200 - length (in_front place text at)) (drop (begun text at) (chars text) ++ chars place.behind)

-- a number as 64 bits hold it
abbrev pub held : ℕ → ℕ
held n = min n (2 ^ 64 - 1)

-- these characters, without a carriage return at their end
abbrev pub line_around : Place → List ℕ → ℕ → List ℕ
line_around place text at = without_return (in_front place text at ++ from_on place text at)

-- where a span of the text at a place stands, the line there, and marks under the span
abbrev pub shown_at : Place → List ℕ → Span → Shown
shown_at place text span =
    let line = line_around place text span.start in
    let front = length (in_front place text span.start) in
    record {
      line = held (line_in place text span.start);
      column = held (column_in place text span.start);
      text = escaped line;
      marks = marks (take front line) (take (begun text span.end - begun text span.start) (drop front line));
    }

-- what is told of it
abbrev pub told_at : (path : List ℕ) → Place → (text : List ℕ) → Span → (label message : List ℕ) → Told
told_at path place text span label message =
    record { path = path; shown = Some (shown_at place text span); label = label; message = message; help = None }

-- ---- its text

-- a place, as editors read it
abbrev pub place_text : (path : List ℕ) → (line column : ℕ) → List ℕ
place_text path line column = path ++ (codes ":" ++ (decimal line ++ (codes ":" ++ decimal column)))

-- where an offset of the text stands that stands at a place in the file of the path
abbrev pub place_in : (path : List ℕ) → Place → (text : List ℕ) → ℕ → List ℕ
place_in path place text at = place_text path (held (line_in place text at)) (held (column_in place text at))

-- what is not empty, before what it heads
abbrev pub heading : List ℕ → List ℕ
heading [] = []
heading (b ∷ bs) = b ∷ bs ++ codes ": "

abbrev pub location : List ℕ → Option Shown → List ℕ
location path None = heading path
location path (Some shown) =
    path ++ (codes ":" ++ (decimal shown.line ++ (codes ":" ++ (decimal shown.column ++ codes ": "))))

abbrev pub shown_lines : Option Shown → List ℕ
shown_lines None = []
shown_lines (Some shown) = shown.text ++ (codes "\n" ++ (shown.marks ++ codes "\n"))

abbrev pub help_line : Option (List ℕ) → List ℕ
help_line None = []
help_line (Some help) = codes "help: " ++ (help ++ codes "\n")

abbrev pub told_lines : Told → List ℕ
told_lines told =
    location told.path told.shown
    ++ (heading told.label ++ (told.message ++ (codes "\n" ++ (shown_lines told.shown ++ help_line told.help))))

abbrev pub told_text : Told → List ℕ
told_text told = printable (told_lines told)

-- ---- all texts

-- how many there are beyond the first hundred
abbrev pub more_line : ℕ → List ℕ
more_line count = cond (nat_le count 100) [] (codes "and " ++ (decimal (count - 100) ++ codes " more\n"))

-- the first hundred, of so many in all
abbrev pub first_told : List Told → ℕ → List ℕ
first_told told count = printable (flat_map told_lines (take 100 told) ++ more_line count)

abbrev pub all_told : List Told → List ℕ
all_told told = first_told told (length told)

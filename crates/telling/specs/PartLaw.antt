-- What is known of a part of a file.
use Rattle.std.specs.Prelude.{◌≡◌, ◌≤◌, ◌+◌, ℕ, List, ◌++◌, length}
use Rattle.telling.specs.Positions.{line_of, column_of}
use Rattle.telling.specs.Places.{line_in, column_in, place_between}
use Rattle.telling.specs.declared.part.Place.{Place}

-- of the file `front ++ text ++ back`: its line and its column at each offset of the text are those that the text tells
-- with its place
abbrev pub TellsOfItsFile : (front text back : List ℕ) → Type 0
TellsOfItsFile front text back = (at : ℕ) → at ≤ length text →
    let file : List ℕ = front ++ (text ++ back) in
    let place : Place = place_between file (length front) (length front + length text) in
    (line_of file (length front + at) ≡ line_in place text at) × (column_of file (length front + at) ≡ column_in place text at)

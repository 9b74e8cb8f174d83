-- What is known of an offset of which the line and the column are kept.
use Rattle.std.specs.Prelude.{◌≡◌, ◌≤◌, ℕ, List, length}
use Rattle.telling.specs.Positions.{line_of, column_of}
use Rattle.telling.specs.declared.part.Mark.{Mark}

pub record IsMark (text : List ℕ) (mark : Mark) : Type 0 where
  pub within : mark.offset ≤ length text
  pub line : mark.line ≡ line_of text mark.offset
  pub column : mark.column ≡ column_of text mark.offset

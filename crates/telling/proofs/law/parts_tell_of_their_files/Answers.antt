use Rattle.telling.proofs.Counting.{line_inside, column_inside}
use Rattle.telling.proofs.law.parts_tell_of_their_files.Goals as goal

pub returns : goal.returns
returns c = λ front text back at within. (line_inside front text back at within, column_inside front text back at within)

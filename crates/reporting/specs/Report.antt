-- How a refusal is reported.
use Rattle.std.specs.Prelude.{◌++◌, ℕ, List, [], ◌∷◌, codes}
use Rattle.std.specs.Fmt.{decimal}
use Rattle.diag.specs.Diagnostics.{text_of}
use Rattle.diag.specs.Kind.{name_of}
use Rattle.diag.specs.declared.diagnostics.DiangosticsInner.{DiangosticsInner}

-- the line of a report, of the first diagnostic's kind and span, and the text of all
abbrev pub refusal_line : List DiangosticsInner → List ℕ
refusal_line [] = []
refusal_line (d ∷ ds) =
    codes "refused: " ++ (name_of d.kind ++ (codes " " ++ (decimal d.span.start
    ++ (codes ".." ++ (decimal d.span.end ++ (codes ": " ++ (text_of (d ∷ ds) ++ codes "\n")))))))

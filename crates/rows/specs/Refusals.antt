-- How a row tells a refusal.
use Rattle.std.specs.Prelude.{◌≡◌, ℕ, List, [], ◌∷◌, ◌++◌, codes}
use Rattle.std.specs.Fmt.{decimal}
use Rattle.diag.specs.Kind.{name_of}
use Rattle.diag.specs.declared.diagnostics.DiangosticsInner.{DiangosticsInner}
use Rattle.diag.specs.declared.error.DeriveError.{DeriveError}
use Rattle.diag.specs.declared.error.DeriveError.TheVariants.{Refused, Memory}

-- the first diagnostic's kind, span and message
abbrev pub refusal_text : List DiangosticsInner → List ℕ
refusal_text [] = []
refusal_text (d ∷ ds) = name_of d.kind ++ (codes " " ++ (decimal d.span.start ++ (codes ".." ++ (decimal d.span.end ++ (codes ": " ++ d.message)))))

-- the text tells the refusal
abbrev pub IsTextOf : DeriveError → List ℕ → Type 0
IsTextOf (Refused ds) text = text ≡ refusal_text ds
IsTextOf Memory text = ⊥

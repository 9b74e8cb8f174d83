-- What the reader may do about a text that is no file of Rust.
use Rattle.std.specs.Prelude.{◌≡◌, ◌⊎◌, ℕ, List, [], ◌∷◌, ◌++◌, take, drop, bytes_eq, cond, Option, Some, None, codes}
use Rattle.diag.specs.Diagnostics.{HasFirst}
use Rattle.diag.specs.declared.diagnostics.DiangosticsInner.{DiangosticsInner}
use Rattle.diag.specs.declared.error.DeriveError.TheVariants.{Refused}
use Rattle.diag.specs.declared.kind.Kind.{Kind}
use Rattle.diag.specs.declared.kind.Kind.TheVariants.{Syntax}
use Rattle.texts.specs.declared.span.Span.{Span}
use Rattle.tokens.specs.Trees.{Trees}
use Rattle.tokens.specs.declared.token.Bracket.{Bracket}
use Rattle.tokens.specs.declared.token.Bracket.TheVariants.{Round, Square, Curly}
use Rattle.lexing.specs.Cut.{IsCut, IsDepthError, IsSyntaxError}
use Rattle.lexing.specs.Open.{IsOpenBracket}
use Rattle.lexing.specs.declared.brackets.OpenBracket.{OpenBracket}
use Rattle.telling.specs.Positions.{line_of, column_of}
use Rattle.telling.specs.Told.{place_text}

abbrev pub bracket_text : Bracket → List ℕ
bracket_text Round = codes "("
bracket_text Square = codes "["
bracket_text Curly = codes "{"

-- a bracket of the text, which is that of the file of the name, is open
abbrev pub open_help : (name text : List ℕ) → OpenBracket → List ℕ
open_help name text bracket =
    codes "`" ++ (bracket_text bracket.bracket ++ (codes "` is open here: " ++ place_text name (line_of text bracket.span.start) (column_of text bracket.span.start)))

-- what opens at the front of what is left of a text that is not cut there
abbrev pub unclosed_help : List ℕ → Option (List ℕ)
unclosed_help rest =
    cond (bytes_eq (take 2 rest) (codes "/*")) (Some (codes "a comment opens here, and is not closed"))
    (cond (bytes_eq (take 1 rest) (codes "\"")) (Some (codes "a string opens here, and is not closed or has an escape that Rust has not")) None)

-- the text of a file that cannot be read: it stops inside of a bracket; it is cut, and something in it is no item; or else it is not cut,
-- and tells where it begins no piece what opens there
pub data IsSyntaxHelp (name text : List ℕ) : Option (List ℕ) → Type 0 where
  of_bracket : {bracket : OpenBracket} → IsOpenBracket text (Some bracket) → IsSyntaxHelp name text (Some (open_help name text bracket))
  of_item : {trees : Trees} → IsOpenBracket text None → IsCut text trees → IsSyntaxHelp name text (Some (codes "no item of Rust begins so"))
  of_piece : (d : List DiangosticsInner) (span : Span) → IsOpenBracket text None → IsDepthError text (Refused d) ⊎ IsSyntaxError text (Refused d)
      → HasFirst d (λ entry. span ≡ entry.span) → IsSyntaxHelp name text (unclosed_help (drop span.start text))

-- that is refused with the kind
abbrev pub IsKindHelp : (name text : List ℕ) → Kind → Option (List ℕ) → Type 0
IsKindHelp name text Syntax help = IsSyntaxHelp name text help
IsKindHelp name text kind help = help ≡ None

abbrev pub IsHelpOfStop : (name text : List ℕ) → List DiangosticsInner → Option (List ℕ) → Type 0
IsHelpOfStop name text [] help = ⊥
IsHelpOfStop name text (entry ∷ entries) help = IsKindHelp name text entry.kind help

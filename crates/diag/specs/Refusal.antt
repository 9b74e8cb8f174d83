-- Errors that refuse.
use Rattle.std.specs.Prelude.{◌≡◌, ◌⊎◌, ℕ, List, [], ◌∷◌, Result, IfErr, codes}
use Rattle.diag.specs.declared.error.DeriveError.{DeriveError}
use Rattle.diag.specs.declared.error.DeriveError.TheVariants.{Refused, Memory}
use Rattle.diag.specs.declared.kind.Kind.{Kind}
use Rattle.diag.specs.declared.kind.Kind.TheVariants.{Syntax, TooDeep}
use Rattle.texts.specs.declared.span.Span.{Span}
use Rattle.diag.specs.declared.suggestion.Suggestion.TheVariants.{Help}
use Rattle.diag.specs.Diagnostics.{diagnostic, with_suggestion}

-- the error is a refusal by one diagnostic, without suggestions and instances
abbrev pub IsRefusal : Kind → Span → List ℕ → DeriveError → Type 0
IsRefusal kind span message (Refused d) = d ≡ diagnostic kind span message ∷ []
IsRefusal kind span message Memory = ⊥

-- the error is a refusal by one diagnostic, which has one suggestion: a help
abbrev pub IsHelpRefusal : Kind → Span → (message help : List ℕ) → DeriveError → Type 0
IsHelpRefusal kind span message help (Refused d) = d ≡ with_suggestion (Help help) (diagnostic kind span message ∷ [])
IsHelpRefusal kind span message help Memory = ⊥

-- the error refuses, at the span, text that its grammar cannot go on with
abbrev pub IsSyntaxRefusal : Span → DeriveError → Type 0
IsSyntaxRefusal span e = IsRefusal Syntax span (codes "unexpected text in a declaration") e

-- the error refuses, at the span, text that nests deeper than it may
abbrev pub IsDepthRefusal : Span → DeriveError → Type 0
IsDepthRefusal span e = IsRefusal TooDeep span (codes "nesting is deeper than 64") e

-- the error is want of memory, or refuses so
abbrev pub IsErrorFor : (DeriveError → Type 0) → DeriveError → Type 0
IsErrorFor refuses e = (e ≡ Memory) ⊎ refuses e

-- an error that is answered is one for that
abbrev pub Refuses : {A : Type 0} → Result A DeriveError → (DeriveError → Type 0) → Type 0
Refuses result refuses = IfErr result (IsErrorFor refuses)

-- no error refuses so
abbrev pub RefusesNone : (DeriveError → Type 0) → Type 0
RefusesNone refuses = (e : DeriveError) → ¬ refuses e

-- What the reader may do about a fault.
use Rattle.std.proofs.Common.{◌≡◌, ◌∙◌, ◌⊎◌, ◌++◌, ℕ, List, [], ◌∷◌, length, take, drop, Bool, true, false, bytes_eq, Option, None, inl, inr, refl, ap, sym, subst}
use Rattle.std.proofs.lemmas.List.{take-append-drop}
use Rattle.std.proofs.lemmas.Slice.Eq.{bytes_eq-Decides}
use Rattle.diag.specs.Diagnostics.{HasFirst}
use Rattle.diag.specs.declared.diagnostics.DiangosticsInner.{DiangosticsInner}
use Rattle.diag.specs.declared.error.DeriveError.{DeriveError}
use Rattle.diag.specs.declared.error.DeriveError.TheVariants.{Refused, Memory}
use Rattle.diag.specs.declared.kind.Kind.{Kind}
use Rattle.lexing.specs.Cut.{IsDepthError, IsSyntaxError}
use Rattle.lexing.specs.Open.{IsOpenBracket}
use Rattle.texts.specs.declared.span.Span.{Span}
use Rattle.gathering.specs.Stops.{unclosed_help, IsSyntaxHelp, of_piece, IsKindHelp, IsHelpOfStop}

-- the help for the kind of a refusal is that for the refusal
pub help_for : (name text : List ℕ) (d : List DiangosticsInner) (k : Kind) (help : Option (List ℕ)) → HasFirst d (λ entry. k ≡ entry.kind) → IsKindHelp name text k help → IsHelpOfStop name text d help
help_for name text [] k help first is = absurd first
help_for name text (entry ∷ entries) k help first is = subst (λ v. IsKindHelp name text v help) first is

-- a text that is not cut tells what opens where it begins no piece
pub piece_for : (name text : List ℕ) (e : DeriveError) (d : List DiangosticsInner) (span : Span) → e ≡ Refused d → (e ≡ Memory) ⊎ IsDepthError text e ⊎ IsSyntaxError text e → IsOpenBracket text None
    → HasFirst d (λ entry. span ≡ entry.span) → IsSyntaxHelp name text (unclosed_help (drop span.start text))
piece_for name text e d span is (inl memory) none first = let one : Memory ≡ Refused d = sym memory ∙ is in cc
piece_for name text e d span is (inr cause) none first = of_piece d span none (subst (λ v. IsDepthError text v ⊎ IsSyntaxError text v) is cause) first

-- a text that does not begin so
pub no_front : (front s : List ℕ) → ((rest : List ℕ) → s ≡ front ++ rest → ⊥) → bytes_eq (take (length front) s) front ≡ false
no_front front s none = by (bytes_eq (take (length front) s) front) refl
  where
    by : (b : Bool) → bytes_eq (take (length front) s) front ≡ b → b ≡ false
    by true e =
        absurd (none (drop (length front) s) (sym (take-append-drop (length front) s) ∙ ap (λ v. v ++ drop (length front) s) ((bytes_eq-Decides (take (length front) s) front).0 e)))
    by false e = refl

-- What is told, with what the reader may do.
use Rattle.std.proofs.Common.{◌≡◌, ℕ, List, [], ◌∷◌, Option}
use Rattle.diag.specs.Diagnostics.{HasFirst}
use Rattle.diag.specs.Kind.{name_of}
use Rattle.diag.specs.declared.diagnostics.DiangosticsInner.{DiangosticsInner}
use Rattle.diag.specs.declared.kind.Kind.{Kind}
use Rattle.texts.specs.declared.span.Span.{Span}
use Rattle.telling.specs.Told.{told_at}
use Rattle.telling.specs.declared.part.Place.{Place}
use Rattle.gathering.specs.Telling.{told_by, entry_help}

-- by what the first entry is
pub by_first : (path text : List ℕ) (place : Place) (d : List DiangosticsInner) (span : Span) (kind : Kind) (message : List ℕ) (help : Option (List ℕ)) → HasFirst d (λ e. span ≡ e.span) → HasFirst d (λ e. kind ≡ e.kind)
    → HasFirst d (λ e. message ≡ e.message) → HasFirst d (λ e. help ≡ entry_help e) → record (told_at path place text span (name_of kind) message) { help = help } ≡ told_by path place text d
by_first path text place [] span kind message help s k m h = absurd h
by_first path text place (e ∷ es) span kind message help s k m h = λ i. record (told_at path place text (s i) (name_of (k i)) (m i)) { help = h i }

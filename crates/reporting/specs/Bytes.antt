-- When bytes are a text, and how others are refused.
use Rattle.std.specs.Prelude.{◌<◌, ◌≤◌, ◌+◌, ◌⊎◌, ℕ, List, length, codes}
use Rattle.std.specs.Str.{IsUtf8, IsValidUpTo}
use Rattle.diag.specs.Refusal.{IsRefusal, IsSyntaxRefusal}
use Rattle.texts.specs.Span.{no_span}
use Rattle.diag.specs.declared.error.DeriveError.{DeriveError}
use Rattle.diag.specs.declared.kind.Kind.TheVariants.{TooLong}
use Rattle.texts.specs.declared.span.Span.{Span}

-- the most bytes of a source
abbrev pub most_bytes : ℕ
most_bytes = 1048576

-- The bytes can be read as a text: they are not too many, and UTF-8 (RFC 3629).
pub record IsText (bytes : List ℕ) : Type 0 where
  pub short : length bytes ≤ most_bytes
  pub utf8 : IsUtf8 bytes

-- The span of the first bytes that are no UTF-8. The longest front that is UTF-8 ends where it
-- starts.
pub record IsBroken (bytes : List ℕ) (span : Span) : Type 0 where
  pub no_text : ¬ (IsUtf8 bytes)
  pub front : IsValidUpTo bytes span.start
  pub some : span.start < span.end
  pub few : span.end < span.start + 4
  pub within : span.end ≤ length bytes

-- ---- the causes of a refusal of bytes, of which an earlier one comes first

-- the error refuses bytes that are too many
abbrev pub IsTooLong : List ℕ → DeriveError → Type 0
IsTooLong bytes e =
    (most_bytes < length bytes)
    × IsRefusal TooLong no_span (codes "the source is longer than 1048576 bytes") e

-- the error refuses bytes that are no UTF-8
abbrev pub IsNoText : List ℕ → DeriveError → Type 0
IsNoText bytes e =
    (length bytes ≤ most_bytes) × ((span : Span) × IsBroken bytes span × IsSyntaxRefusal span e)

-- the error refuses the bytes: they are too many, or else no UTF-8, or else it refuses the text that
-- they are
abbrev pub IsRefusedBytes : (DeriveError → Type 0) → List ℕ → DeriveError → Type 0
IsRefusedBytes refuses bytes e =
    IsTooLong bytes e ⊎ (IsNoText bytes e ⊎ (IsText bytes × refuses e))

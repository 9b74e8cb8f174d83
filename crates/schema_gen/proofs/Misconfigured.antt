-- Why a file is refused.
use Rattle.std.proofs.Common.{◌≡◌, ℕ, List}
use Rattle.diag.specs.Diagnostics.{HasFirst}
use Rattle.diag.specs.declared.diagnostics.DiangosticsInner.{DiangosticsInner}
use Rattle.diag.specs.declared.error.DeriveError.TheVariants.{Refused}
use Rattle.diag.specs.declared.kind.Kind.{Kind}
use Rattle.configuration_json.specs.Form.{IsRefusedText}
use Rattle.configuration_json.specs.Said.{HaveFault}
use Rattle.reporting.specs.Beginning.{Beginning}
use Rattle.schema_gen.specs.Given.{IsRefusedFile, IsMisconfiguredBy}

-- bytes that are refused with a kind have the fault of this kind
abbrev pub RefusedHaveFaults : Type 0
RefusedHaveFaults = (kind : Kind) (ds : List DiangosticsInner) (bytes : List ℕ) → HasFirst ds (λ d. d.kind ≡ kind) → IsRefusedText bytes (Refused ds) → HaveFault kind bytes

pub file_fault : RefusedHaveFaults → (kind : Kind) (ds : List DiangosticsInner) → HasFirst ds (λ d. d.kind ≡ kind) → (begun : Beginning) → IsRefusedFile begun (Refused ds) → IsMisconfiguredBy kind begun
file_fault law kind ds first begun (path, bytes, form, at, (none, refused)) = (path, bytes, form, at, (none, law kind ds bytes first refused))

-- The faults of declarations that are read of files.
use Rattle.std.specs.Prelude.{◌≡◌, ℕ, suc, List, [], ◌∷◌, ◌++◌, slice_get, Option, Some, None}
use Rattle.diag.specs.Refusal.{RefusesNone}
use Rattle.diag.specs.declared.diagnostics.DiangosticsInner.{DiangosticsInner}
use Rattle.diag.specs.declared.error.DeriveError.TheVariants.{Refused}
use Rattle.configuration.specs.Configuration.{Configuration}
use Rattle.syntax.specs.Items.{DeclaredItem}
use Rattle.derive_decl.specs.Faults.{IsFaultyAt}
use Rattle.telling.specs.declared.told.Told.{Told}
use Rattle.prepare.specs.declared.file_items.FileItem.{FileItem}
use Rattle.file_derivation.specs.Helps.{Origin, told_fault}

-- The declaration at the place is without fault, or this is told of one of its faults.
abbrev pub IsFaultAt : Configuration → List DeclaredItem → Origin → ℕ → Option Told → Type 0
IsFaultAt c ds o at None = RefusesNone (IsFaultyAt c ds at)
IsFaultAt c ds o at (Some told) =
    (x : DeclaredItem) × (i : FileItem) × (d : List DiangosticsInner)
    × (slice_get ds at ≡ Some x) × (slice_get o.from at ≡ Some i) × IsFaultyAt c ds at (Refused d) × (told ≡ told_fault o ds at x i d)

abbrev pub with_told : List Told → Option Told → List Told
with_told faults None = faults
with_told faults (Some told) = faults ++ told ∷ []

-- Of the first so many declarations, of this origin, each is without fault, or one of its faults is told, in order.
pub data AreFaults (c : Configuration) (ds : List DeclaredItem) (o : Origin) : ℕ → List Told → Type 0 where
  none_yet : AreFaults c ds o 0 []
  one_more : {at : ℕ} {faults : List Told} (told : Option Told) → AreFaults c ds o at faults → IsFaultAt c ds o at told → AreFaults c ds o (suc at) (with_told faults told)

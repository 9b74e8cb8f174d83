-- What is told of instances that are not plain, one after another.
use Rattle.std.proofs.Common.{◌≡◌, ◌<◌, ℕ, zero, suc, List, [], ◌∷◌, ◌++◌, length, get_or, Some, arith}
use Rattle.std.specs.Prelude.{slice_get}
use Rattle.syntax.specs.Items.{DeclaredItem}
use Rattle.telling.specs.declared.told.Told.{Told}
use Rattle.prepare.specs.declared.file_items.FileItem.{FileItem}
use Rattle.plainness.specs.declared.unplain.Unplain.{Unplain}
use Rattle.compose.specs.Unplain.{AreDeclaredIn}
use Rattle.file_derivation.specs.Unplain.{told_unplain, AreUnplainTold, none_told, one_told}

-- one instance more
pub told-more : (names : List (List ℕ)) (ds : List DeclaredItem) (from : List FileItem) (us : List Unplain) (told : List Told) (u : Unplain) (d : DeclaredItem) (i : FileItem) → AreUnplainTold names ds from us told
    → slice_get ds u.declaration ≡ Some d → slice_get from u.declaration ≡ Some i → AreUnplainTold names ds from (us ++ u ∷ []) (told ++ told_unplain names d i u ∷ [])
told-more names ds from us told u d i none_told declared read = one_told declared read none_told
told-more names ds from (v ∷ us) (t ∷ told) u d i (one_told a b more) declared read = one_told a b (told-more names ds from us told u d i more declared read)

-- the declaration of each is there
pub declared-at : (many : ℕ) (us : List Unplain) (at : ℕ) (u : Unplain) → AreDeclaredIn many us → at < length us → (get_or us at u).declaration < many
declared-at many [] at u all l = absurd (omega (arith, l))
declared-at many (v ∷ us) zero u all l = all.0
declared-at many (v ∷ us) (suc at) u all l = declared-at many us at u all.1 (omega (arith, l))

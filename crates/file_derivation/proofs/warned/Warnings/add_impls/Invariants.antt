use Rattle.std.proofs.Common.{◌≡◌, ◌++◌, List, length}
use Rattle.syntax.specs.Items.{declarations_view}
use Rattle.telling.specs.declared.told.Told.{Told}
use Rattle.file_derivation.specs.Warned.{told_impls, AreFirst}
use Rattle.file_derivation.proofs.warned.Warnings.add_impls.Given as goal

-- the impls behind are still to be added
abbrev pub invariant-impls : goal.invariant-impls
invariant-impls l =
    (all : List Told) → AreFirst all l.fn.self → (done : List Told) × AreFirst (all ++ done) l.self
    × (done ++ told_impls l.names (declarations_view l.places.declarations.now) l.rest ≡ told_impls l.names (declarations_view l.places.declarations.now) l.impls)

abbrev pub decreases-impls : goal.decreases-impls
decreases-impls l = length l.rest

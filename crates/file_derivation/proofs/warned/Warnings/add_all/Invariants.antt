use Rattle.std.proofs.Common.{◌≡◌, ◌++◌, List, length, map}
use Rattle.telling.specs.declared.told.Told.{Told}
use Rattle.warnings.specs.Rules.{warning_view}
use Rattle.file_derivation.specs.Warned.{told_warning, AreFirst}
use Rattle.file_derivation.proofs.warned.Warnings.add_all.Given as goal

-- the warnings behind are still to be added
abbrev pub invariant-warnings : goal.invariant-warnings
invariant-warnings l =
    (all : List Told) → AreFirst all l.fn.self → (done : List Told) × AreFirst (all ++ done) l.self
    × (done ++ map (told_warning l.name l.item) (map warning_view l.rest) ≡ map (told_warning l.name l.item) (map warning_view l.warnings))

abbrev pub decreases-warnings : goal.decreases-warnings
decreases-warnings l = length l.rest

use Rattle.std.proofs.Common.{◌++◌, List, map, take}
use Rattle.syntax.specs.Items.{declarations_view}
use Rattle.telling.specs.declared.told.Told.{Told}
use Rattle.selecting.specs.Elsewhere.{found_by}
use Rattle.file_derivation.specs.Elsewhere.{told_all_elsewhere}
use Rattle.file_derivation.specs.Warned.{AreFirst}
use Rattle.file_derivation.proofs.elsewhere.with_elsewhere.Given as goal

-- what is told of the declarations so far
abbrev pub invariant-loop-at : goal.invariant-loop-at
invariant-loop-at l =
    (front : List Told) → AreFirst front l.fn.warnings
    → AreFirst (front ++ told_all_elsewhere l.names (found_by l.elsewhere) (take l.at (declarations_view l.declarations)) (take l.at (map (λ i. i.now) l.from))) l.warnings

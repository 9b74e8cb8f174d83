use Rattle.std.proofs.Common.{◌++◌, List, map, take}
use Rattle.syntax.specs.Items.{declarations_view}
use Rattle.telling.specs.declared.told.Told.{Told}
use Rattle.file_derivation.specs.Unplain.{AreUnplainTold}
use Rattle.file_derivation.specs.Warned.{AreFirst}
use Rattle.file_derivation.proofs.unplain.push_unplain.Given as goal

-- what is told of the instances so far
abbrev pub invariant-loop-at : goal.invariant-loop-at
invariant-loop-at l =
    (front : List Told) → AreFirst front l.initial.warnings → (told : List Told) × AreUnplainTold l.names (declarations_view l.declarations) (map (λ i. i.now) l.from) (take l.at l.unplain) told × AreFirst (front ++ told) l.warnings

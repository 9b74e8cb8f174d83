use Rattle.std.proofs.Common.{◌++◌, List, map}
use Rattle.syntax.specs.Items.{declarations_view}
use Rattle.telling.specs.declared.told.Told.{Told}
use Rattle.file_derivation.specs.Warned.{AreWarned, AreFirst}
use Rattle.file_derivation.proofs.warned.warnings_from.Given as goal

-- the warnings of the declarations so far
abbrev pub invariant-loop-at : goal.invariant-loop-at
invariant-loop-at l =
    (front : List Told) → AreFirst front l.fn.warnings → (all : List Told) × AreWarned l.lookup.config.now l.names (declarations_view l.lookup.places.now.declarations.now) (map (λ i. i.now) l.from) l.at all × AreFirst (front ++ all) l.warnings

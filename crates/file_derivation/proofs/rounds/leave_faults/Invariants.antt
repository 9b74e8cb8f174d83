use Rattle.std.proofs.Common.{◌≡◌, ◌++◌, [], List, length, map}
use Rattle.syntax.specs.Items.{declarations_view}
use Rattle.syntax.specs.Named.{AreNamed}
use Rattle.gathering.specs.Reading.{AreRead}
use Rattle.prepare.specs.declared.file_items.FileItem.{FileItem}
use Rattle.telling.specs.declared.told.Told.{Told}
use Rattle.file_derivation.specs.Rounds.{LeavesFaults}
use Rattle.file_derivation.proofs.rounds.leave_faults.Given as goal

-- what the items that are left read as, and what is told of the others; what they leave, the items leave
abbrev pub invariant-rounds : goal.invariant-rounds
invariant-rounds l =
    AreRead l.names (map (λ i. i.now) l.left) (map (λ i. i.now) l.reading.from) (declarations_view l.reading.declarations) []
    × AreNamed (declarations_view l.reading.declarations)
    × ((told : List Told) × (l.lines ≡ l.fn.lines ++ told)
    × ((more : List Told) (last : List FileItem) → LeavesFaults l.selection l.config l.names (map (λ i. i.now) l.left) more last → LeavesFaults l.selection l.config l.names (map (λ i. i.now) l.fn.items) (told ++ more) last))

abbrev pub decreases-rounds : goal.decreases-rounds
decreases-rounds l = length l.left

use Rattle.std.proofs.Common.{map}
use Rattle.syntax.specs.Items.{declarations_view}
use Rattle.file_derivation.specs.Faults.{AreFaults}
use Rattle.file_derivation.proofs.faults.faults_of.Given as goal

-- the faults so far
abbrev pub invariant-loop-at : goal.invariant-loop-at
invariant-loop-at l =
    AreFaults l.config (declarations_view l.declarations) (record { names = l.names; excluded = l.excluded; from = map (λ i. i.now) l.fn.from }) l.at l.faults

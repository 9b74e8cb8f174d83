use Rattle.std.proofs.Common.{map}
use Rattle.syntax.specs.Items.{declarations_view}
use Rattle.file_derivation.specs.Rounds.{AreVerdicts}
use Rattle.file_derivation.proofs.judged.judge_declarations.Given as goal

-- the items so far are judged
abbrev pub invariant-loop-at : goal.invariant-loop-at
invariant-loop-at l =
    AreVerdicts l.config (declarations_view l.declarations) (record { names = l.names; excluded = l.excluded; from = map (λ i. i.now) l.fn.from }) l.at l.judged

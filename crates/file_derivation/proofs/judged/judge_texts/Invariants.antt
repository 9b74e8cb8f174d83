use Rattle.std.proofs.Common.{◌++◌, List, length, map}
use Rattle.file_derivation.specs.Rounds.{AreTexts}
use Rattle.file_derivation.specs.declared.judged.Judged.{Judged}
use Rattle.file_derivation.proofs.judged.judge_texts.Given as goal

-- the items behind are still to be judged
abbrev pub invariant-items : goal.invariant-items
invariant-items l = (more : List Judged) → AreTexts l.names (map (λ i. i.now) l.rest) more → AreTexts l.names (map (λ i. i.now) l.items) (l.judged ++ more)

abbrev pub decreases-items : goal.decreases-items
decreases-items l = length l.rest

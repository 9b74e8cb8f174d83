use Rattle.std.proofs.Common.{Option}
use Rattle.documents.specs.declared.comparing.Difference.{Difference}
use Rattle.documents.proofs.DifferenceLaws.{AreOrdered}
use Rattle.documents.proofs.DifferenceTexts.{FindsText}
use Rattle.documents.proofs.comparing.first_difference.Given as goal

-- what is found from here on is found from the start
abbrev pub invariant-loop-name : goal.invariant-loop-name
invariant-loop-name l =
    AreOrdered l.name-iterator
    × ((found : Option Difference) → FindsText l.name-iterator l.others.rest.now found → FindsText l.olds.entries l.news found)

use Rattle.std.proofs.Common.{◌≡◌, map, take}
use Rattle.component.specs.Leaves.{term_view}
use Rattle.terms.specs.Terms.{number_alone}
use Rattle.terms.proofs.numbers.tags.Given as goal

-- the objects so far are those of the numbers so far
abbrev pub invariant-loop-number : goal.invariant-loop-number
invariant-loop-number l = map term_view l.items ≡ map (number_alone l.tag) (take l.number-index l.numbers)

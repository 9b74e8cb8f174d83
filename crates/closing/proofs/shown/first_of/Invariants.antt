use Rattle.std.proofs.Common.{map}
use Rattle.instances.specs.Lists.{instance_at}
use Rattle.shapes.specs.Views.{declaration_view}
use Rattle.closing.specs.Links.{IsFirst}
use Rattle.closing.proofs.ShownNumbers.{AreChosen}
use Rattle.closing.proofs.shown.first_of.Given as goal

-- the first of the instances so far
abbrev pub invariant-loop-number : goal.invariant-loop-number
invariant-loop-number l = AreChosen (λ n. IsFirst (map declaration_view l.declared) l.all (instance_at l.reach n)) l.number l.first

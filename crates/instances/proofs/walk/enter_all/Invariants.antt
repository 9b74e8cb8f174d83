use Rattle.std.proofs.Common.{◌<◌, ◌≤◌, ◌-◌, ℕ, length, map}
use Rattle.type_table.specs.Types.{type_at}
use Rattle.shapes.specs.Instances.{places_at}
use Rattle.shapes.specs.Views.{declaration_view}
use Rattle.instances.specs.Lists.{instance_at}
use Rattle.instances.specs.Entering.{AreFound, AreHeld, roots_among}
use Rattle.instances.proofs.walk.enter_all.Given as goal

-- the roots are entered, and what stands in the places of the instances so far
abbrev pub invariant-loop-number : goal.invariant-loop-number
invariant-loop-number l =
    let ss = map declaration_view l.declared in
    let is = map (type_at l.types) l.found.instances in
    record {
      found : AreFound ss l.types l.bounds l.found;
      within : l.number ≤ length l.found.instances;
      roots : AreHeld (roots_among ss (length l.declared)) is;
      places : (k : ℕ) → k < l.number → AreHeld (places_at ss (instance_at is k)) is;
    }

abbrev pub decreases-loop-number : goal.decreases-loop-number
decreases-loop-number l = l.bounds.limit - l.number

use Rattle.std.proofs.Common.{◌≡◌, map, take}
use Rattle.instances.specs.Lists.{instance_at}
use Rattle.compose.specs.Bounds.{instance_text}
use Rattle.compose.proofs.Placed.{with_instances}
use Rattle.compose.proofs.refusals.refusal_of.Given as goal

-- the instances so far
abbrev pub invariant-loop-number : goal.invariant-loop-number
invariant-loop-number l = l.diagnostics ≡ with_instances l.fn.kind l.fn.span l.message (map (instance_text l.idents) (map (instance_at l.reach) (take l.number-index l.numbers)))

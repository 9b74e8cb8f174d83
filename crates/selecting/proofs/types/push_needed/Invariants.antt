use Rattle.std.proofs.Common.{length, map}
use Rattle.configuration.specs.Configuration.{Configuration}
use Rattle.selecting.specs.Types.{Adds}
use Rattle.selecting.proofs.types.push_needed.Given as goal

abbrev pub invariant-aliases : goal.invariant-aliases
invariant-aliases l = (d : Configuration) → Adds l.config (map (λ a. a.now) l.rest) d → Adds l.initial.config (map (λ a. a.now) l.needed) d

abbrev pub decreases-aliases : goal.decreases-aliases
decreases-aliases l = length l.rest

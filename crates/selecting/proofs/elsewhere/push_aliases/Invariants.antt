use Rattle.std.proofs.Common.{◌≡◌, ◌++◌, length, map}
use Rattle.selecting.specs.Standing.{alias_names}
use Rattle.selecting.proofs.elsewhere.push_aliases.Given as goal

abbrev pub invariant-aliases : goal.invariant-aliases
invariant-aliases l = l.names ++ alias_names (map (λ a. a.now) l.rest) ≡ l.initial.names ++ alias_names (map (λ a. a.now) l.aliases)

abbrev pub decreases-aliases : goal.decreases-aliases
decreases-aliases l = length l.rest

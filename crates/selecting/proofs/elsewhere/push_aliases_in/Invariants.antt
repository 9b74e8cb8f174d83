use Rattle.std.proofs.Common.{◌≡◌, ◌++◌, length, map}
use Rattle.selecting.specs.Elsewhere.{alias_name_in}
use Rattle.selecting.proofs.elsewhere.push_aliases_in.Given as goal

abbrev pub invariant-aliases : goal.invariant-aliases
invariant-aliases l = l.names ++ map alias_name_in (map (λ a. a.now) l.rest) ≡ l.initial.names ++ map alias_name_in (map (λ a. a.now) l.aliases)

abbrev pub decreases-aliases : goal.decreases-aliases
decreases-aliases l = length l.rest

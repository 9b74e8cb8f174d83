use Rattle.std.proofs.Common.{◌≡◌, ◌++◌, not, length, map}
use Rattle.std.specs.List.{filter}
use Rattle.selecting.specs.Standing.{alias_names}
use Rattle.selecting.proofs.imports.push_given.Given as goal

abbrev pub invariant-aliases : goal.invariant-aliases
invariant-aliases l = l.names ++ alias_names (filter (λ a. not a.is_import) (map (λ a. a.now) l.rest)) ≡ l.initial.names ++ alias_names (filter (λ a. not a.is_import) (map (λ a. a.now) l.aliases))

abbrev pub decreases-aliases : goal.decreases-aliases
decreases-aliases l = length l.rest

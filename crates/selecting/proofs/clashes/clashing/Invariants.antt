use Rattle.std.proofs.Common.{◌≡◌, ◌++◌, length, map}
use Rattle.std.specs.BTreeMap.{get_by_text}
use Rattle.std.specs.List.{filter}
use Rattle.selecting.specs.Clashes.{clashes_by}
use Rattle.selecting.proofs.clashes.clashing.Given as goal

abbrev pub invariant-aliases : goal.invariant-aliases
invariant-aliases l =
    map (λ a. a.now) l.found ++ filter (clashes_by (get_by_text l.names.declared) (get_by_text l.names.parameters) (get_by_text l.names.aliases) (map (λ a. a.now) l.aliases)) (map (λ a. a.now) l.rest)
    ≡ filter (clashes_by (get_by_text l.names.declared) (get_by_text l.names.parameters) (get_by_text l.names.aliases) (map (λ a. a.now) l.aliases)) (map (λ a. a.now) l.aliases)

abbrev pub decreases-aliases : goal.decreases-aliases
decreases-aliases l = length l.rest

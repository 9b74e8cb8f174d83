use Rattle.std.proofs.Common.{◌≡◌, ◌&&◌, ◌++◌, not, length, map}
use Rattle.std.specs.List.{filter}
use Rattle.selecting.specs.Standing.{alias_names, is_own, names_itself}
use Rattle.selecting.proofs.standing.push_alias_names.Given as goal

abbrev pub invariant-aliases : goal.invariant-aliases
invariant-aliases l = l.own ++ alias_names (filter (λ a. is_own l.selection a.file && not (names_itself a)) (map (λ a. a.now) l.rest)) ≡ l.initial.own ++ alias_names (filter (λ a. is_own l.selection a.file && not (names_itself a)) (map (λ a. a.now) l.aliases))

abbrev pub decreases-aliases : goal.decreases-aliases
decreases-aliases l = length l.rest

use Rattle.std.proofs.Common.{◌≡◌, ◌++◌, length, map}
use Rattle.std.specs.BTreeMap.{get_by_text}
use Rattle.selecting.specs.Standing.{aliases_counting}
use Rattle.selecting.proofs.standing.aliases_counting.Given as goal

abbrev pub invariant-aliases : goal.invariant-aliases
invariant-aliases l = map (λ a. a.now) l.left ++ aliases_counting (get_by_text l.own) l.selection (map (λ a. a.now) l.rest) ≡ aliases_counting (get_by_text l.own) l.selection (map (λ a. a.now) l.aliases)

abbrev pub decreases-aliases : goal.decreases-aliases
decreases-aliases l = length l.rest

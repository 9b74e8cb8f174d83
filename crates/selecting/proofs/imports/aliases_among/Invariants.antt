use Rattle.std.proofs.Common.{◌≡◌, ◌++◌, length, map}
use Rattle.std.specs.BTreeMap.{get_by_text}
use Rattle.selecting.specs.Imports.{aliases_among}
use Rattle.selecting.proofs.imports.aliases_among.Given as goal

abbrev pub invariant-aliases : goal.invariant-aliases
invariant-aliases l = map (λ a. a.now) l.among ++ aliases_among (get_by_text l.found) (map (λ a. a.now) l.rest) ≡ aliases_among (get_by_text l.found) (map (λ a. a.now) l.aliases)

abbrev pub decreases-aliases : goal.decreases-aliases
decreases-aliases l = length l.rest

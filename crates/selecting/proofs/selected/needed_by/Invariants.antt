use Rattle.std.proofs.Common.{◌≡◌, ◌++◌, length, map}
use Rattle.std.specs.BTreeMap.{get_by_text}
use Rattle.std.specs.List.{filter}
use Rattle.selecting.specs.Selected.{is_needed}
use Rattle.selecting.proofs.selected.needed_by.Given as goal

abbrev pub invariant-aliases : goal.invariant-aliases
invariant-aliases l = map (λ a. a.now) l.needed ++ filter (is_needed (get_by_text l.unreached)) (map (λ a. a.now) l.rest) ≡ filter (is_needed (get_by_text l.unreached)) (map (λ a. a.now) l.aliases)

abbrev pub decreases-aliases : goal.decreases-aliases
decreases-aliases l = length l.rest

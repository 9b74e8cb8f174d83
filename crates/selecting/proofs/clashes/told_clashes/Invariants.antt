use Rattle.std.proofs.Common.{◌≡◌, ◌++◌, length, map}
use Rattle.selecting.specs.Clashes.{told_clash}
use Rattle.selecting.proofs.clashes.told_clashes.Given as goal

abbrev pub invariant-aliases : goal.invariant-aliases
invariant-aliases l = l.lines ++ map (told_clash l.paths) (map (λ a. a.now) l.rest) ≡ map (told_clash l.paths) (map (λ a. a.now) l.aliases)

abbrev pub decreases-aliases : goal.decreases-aliases
decreases-aliases l = length l.rest

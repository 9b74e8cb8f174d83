use Rattle.std.proofs.Common.{◌≡◌, ◌++◌, length, map}
use Rattle.selecting.proofs.elsewhere.each.Given as goal

abbrev pub invariant-all : goal.invariant-all
invariant-all o l = map (λ a. a.now) l.each ++ l.rest ≡ l.all

abbrev pub decreases-all : goal.decreases-all
decreases-all o l = length l.rest

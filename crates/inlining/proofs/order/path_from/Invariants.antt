use Rattle.std.proofs.Common.{◌≡◌, ◌++◌, ◌+◌, ◌<◌, [], ◌∷◌, length, false}
use Rattle.inlining.specs.Inlining.{IsPath}
use Rattle.inlining.specs.Marks.{mark, marks_of}
use Rattle.inlining.proofs.order.path_from.Given as goal

-- the path goes on to the place, which the rounds that are left did not mark
abbrev pub invariant-loop-left : goal.invariant-loop-left
invariant-loop-left l = record {
  within : l.place < length l.targets;
  path : IsPath l.targets (l.path ++ l.place ∷ []);
  unmarked : mark (marks_of l.targets l.left) l.place ≡ false;
  length : length l.path + l.left ≡ l.most;
}

abbrev pub decreases-loop-left : goal.decreases-loop-left
decreases-loop-left l = l.left

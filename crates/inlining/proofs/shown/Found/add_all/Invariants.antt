use Rattle.std.proofs.Common.{◌≡◌, length, take}
use Rattle.inlining.specs.Found.{AreFound, IsGrown}
use Rattle.inlining.proofs.shown.Found.add_all.Given as goal

-- the instances so far are added
abbrev pub invariant-loop-number : goal.invariant-loop-number
invariant-loop-number l = record {
  many : length l.self.marks.items ≡ length l.fn.self.marks.items;
  found : AreFound l.self.marks.items l.self.numbers;
  grown : IsGrown l.fn.self.numbers (take l.number-index l.numbers) l.self.numbers;
}

use Rattle.std.proofs.Common.{◌≡◌, length, map, is_some, take}
use Rattle.inlining.specs.Found.{AreFound, IsGrown}
use Rattle.plainness.specs.Edges.{AreGiven}
use Rattle.plainness.proofs.origins.Walk.add_all.Given as goal

-- the numbers so far are added
abbrev pub invariant-loop-number : goal.invariant-loop-number
invariant-loop-number l = record {
  many : length l.self.origins.items ≡ length l.fn.self.origins.items;
  found : AreFound (map is_some l.self.origins.items) l.self.numbers;
  grown : IsGrown l.fn.self.numbers (take l.number-index l.numbers) l.self.numbers;
  given : AreGiven l.fn.self.origins.items (take l.number-index l.numbers) l.origin l.self.origins.items;
}

use Rattle.std.proofs.Common.{◌≡◌, length, map, take}
use Rattle.shapes.specs.Views.{declaration_view}
use Rattle.closing.proofs.Made.{AreMade, AreWaiting}
use Rattle.closing.proofs.closed.closed.Given as goal

-- the schemas of the instances so far are made, where they are marked, and the terms of the others wait
abbrev pub invariant-loop-number : goal.invariant-loop-number
invariant-loop-number l = record {
  terms : length l.terms.items ≡ length l.reach;
  waiting : AreWaiting (map declaration_view l.declared) l.reach l.marks l.terms.items (take l.number-index l.order);
  many : length l.made.items ≡ length l.reach;
  made : AreMade (map declaration_view l.declared) l.reach l.marks l.made.items (take l.number-index l.order);
}

use Rattle.telling.proofs.Lines.{IsAt}
use Rattle.telling.proofs.position.place.Given as goal

abbrev pub invariant-loop-at : goal.invariant-loop-at
invariant-loop-at l = IsAt l.bytes l.text l.at l.line l.column l.start

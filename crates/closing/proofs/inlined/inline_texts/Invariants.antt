use Rattle.std.proofs.Common.{◌≡◌, ℕ, length, map, take, get_or, None}
use Rattle.shapes.specs.Views.{declaration_view}
use Rattle.closing.proofs.Kept.{AreMadeTo}
use Rattle.closing.proofs.inlined.inline_texts.Given as goal

-- as many places as turns, and no text
abbrev pub invariant-loop : goal.invariant-loop
invariant-loop l = record {
  many : length l.made.items ≡ l.counter;
  none : (n : ℕ) → get_or l.made.items n None ≡ None;
}

-- the texts of the instances so far that are needed longer than to the turn are made
abbrev pub invariant-loop-turn : goal.invariant-loop-turn
invariant-loop-turn l = AreMadeTo (map declaration_view l.declared) l.reach l.fn.by l.marks l.until l.made.items (take l.turn l.order) l.turn

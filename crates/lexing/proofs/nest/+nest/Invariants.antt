use Rattle.std.proofs.Common.{◌≤◌, ◌+◌, ◌*◌, length}
use Rattle.tokens.specs.Trees.{trees_view, depth}
use Rattle.lexing.specs.Nesting.{IsTrees}
use Rattle.lexing.specs.Reading.{LieIn}
use Rattle.lexing.proofs.nest.+nest.Given as goal

abbrev pub invariant-trees_at-pieces : goal.invariant-trees_at-pieces
invariant-trees_at-pieces l = record {
  shorter : length l.rest ≤ length l.pieces;
  lie : LieIn l.source l.rest;
  read : IsTrees l.source l.pieces (trees_view l.found) l.rest;
  shallow : depth (trees_view l.found) ≤ l.left;
}

abbrev pub decreases-trees_at-pieces : goal.decreases-trees_at-pieces
decreases-trees_at-pieces l = length l.rest

abbrev pub decreases-trees_at : goal.decreases-trees_at
decreases-trees_at l = 2 * l.left + 1

abbrev pub decreases-group_at : goal.decreases-group_at
decreases-group_at l = 2 * l.left

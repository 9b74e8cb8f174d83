use Rattle.std.proofs.Common.{◌≡◌, ◌≤◌, ◌<◌, ◌+◌, ◌-◌, ◌++◌, List, length, true, false}
use denote.Text.{Utf8}
use denote.Shadow.{shadow}
use Rattle.std.specs.Str.{chars}
use Rattle.lexing.specs.declared.piece.Piece.{Piece}
use Rattle.lexing.specs.Pieces.{Cuts}
use Rattle.lexing.specs.RawStrings.{NoneCloses}
use Rattle.lexing.specs.Fronts.{count_open}
use Rattle.lexing.proofs.scan.cut_front.Given as goal

abbrev pub invariant-pieces : goal.invariant-pieces
invariant-pieces l = record {
  is_text : shadow (Utf8 l.rest);
  shorter : length l.rest ≤ length l.text;
  joins : (ps : List Piece) → Cuts ps (length l.source - length l.rest) (chars l.rest) → Cuts (l.pieces ++ ps) (length l.source - length l.text) (chars l.text);
  leaves : (all : List Piece) → Cuts all (length l.source - length l.text) (chars l.text) → (ps : List Piece) × Cuts ps (length l.source - length l.rest) (chars l.rest);
  known : NoneCloses l.unclosed (chars l.rest);
  counted : l.depth ≡ count_open 0 l.pieces;
  few : l.depth + length l.rest ≤ length l.text;
  closed : l.ended ≡ true → l.depth ≡ 0;
  never : l.stops ≡ false → l.ended ≡ false;
  moves : l.ended ≡ true → length l.rest < length l.text;
}

abbrev pub decreases-pieces : goal.decreases-pieces
decreases-pieces l = length l.rest

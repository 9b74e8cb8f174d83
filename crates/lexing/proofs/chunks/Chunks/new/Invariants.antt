use Rattle.std.proofs.Common.{◌≤◌, ◌-◌, List, length}
use denote.Text.{Utf8}
use denote.Shadow.{shadow}
use Rattle.std.specs.Str.{chars}
use Rattle.lexing.specs.declared.piece.Piece.{Piece}
use Rattle.lexing.specs.Pieces.{Cuts}
use Rattle.lexing.specs.RawStrings.{NoneCloses}
use Rattle.lexing.proofs.chunks.Chunks.new.Given as goal

abbrev pub invariant-fronts : goal.invariant-fronts
invariant-fronts l = record {
  is_text : shadow (Utf8 l.rest);
  within : length l.rest ≤ length l.source;
  known : NoneCloses l.unclosed (chars l.rest);
  joins : (ps : List Piece) → Cuts ps (length l.source - length l.rest) (chars l.rest) → (all : List Piece) × Cuts all 0 (chars l.source);
  leaves : (all : List Piece) → Cuts all 0 (chars l.source) → (ps : List Piece) × Cuts ps (length l.source - length l.rest) (chars l.rest);
}

abbrev pub decreases-fronts : goal.decreases-fronts
decreases-fronts l = length l.rest

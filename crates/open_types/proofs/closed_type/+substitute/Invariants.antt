use Rattle.std.proofs.Common.{◌≡◌, length, drop}
use Rattle.open_types.specs.Open.{opens_view, AreOverFirst, AreClosed, all_substituted}
use Rattle.open_types.proofs.OpenLists.{append}
use Rattle.open_types.proofs.closed_type.+substitute.Given as goal

abbrev pub invariant-substitute_types-loop-ty : goal.invariant-substitute_types-loop-ty
invariant-substitute_types-loop-ty l = record {
  left : AreOverFirst (length l.arguments) (opens_view l.types) → AreOverFirst (length l.arguments) (opens_view (drop l.ty-index l.types));
  made : append (opens_view l.made) (all_substituted (opens_view l.arguments) (opens_view (drop l.ty-index l.types))) ≡ all_substituted (opens_view l.arguments) (opens_view l.types);
  closed : AreOverFirst (length l.arguments) (opens_view l.types) → AreClosed (opens_view l.made);
}

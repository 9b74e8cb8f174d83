use Rattle.std.proofs.Common.{◌≡◌, length}
use Rattle.open_types.specs.Open.{opens_view}
use Rattle.open_types.specs.Same.{same_types}
use Rattle.open_types.proofs.same.+same.Given as goal

abbrev pub invariant-same_all-loop-ty : goal.invariant-same_all-loop-ty
invariant-same_all-loop-ty l = record {
  lengths : length l.ty-iterator.a.rest.now ≡ length l.ty-iterator.b.rest.now;
  left : same_types (opens_view l.ty-iterator.a.rest.now) (opens_view l.ty-iterator.b.rest.now) ≡ same_types (opens_view l.types) (opens_view l.others);
}

use Rattle.std.proofs.Common.{◌≡◌, ◌++◌, drop, map}
use Rattle.open_types.specs.Open.{open_view, opens_of}
use Rattle.plainness.specs.Edges.{numbers_among}
use Rattle.plainness.proofs.edges.+edges.Given as goal

-- what is found, and what is still to come, is all of it
abbrev pub invariant-push_among-loop-ty : goal.invariant-push_among-loop-ty
invariant-push_among-loop-ty l =
    l.found ++ numbers_among l.reach (opens_of (map open_view (drop l.ty-index l.types))) ≡ l.initial.found ++ numbers_among l.reach (opens_of (map open_view l.types))

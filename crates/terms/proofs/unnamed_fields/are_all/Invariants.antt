use Rattle.std.proofs.Common.{◌≡◌, map, drop}
use Rattle.open_types.specs.Open.{open_view}
use Rattle.terms.specs.Terms.{are_all}
use Rattle.terms.proofs.unnamed_fields.are_all.Given as goal

-- the types so far are the same, so those still to come decide
abbrev pub invariant-loop-other : goal.invariant-loop-other
invariant-loop-other l = are_all (open_view l.first) (map open_view (drop l.other-index l.others)) ≡ are_all (open_view l.first) (map open_view l.others)

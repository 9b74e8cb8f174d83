use Rattle.std.proofs.Common.{◌≡◌, map, take}
use Rattle.syntax.specs.Items.{declarations_view}
use Rattle.warnings.specs.Flat.{flat_view, flats_of}
use Rattle.warnings.proofs.lookup.Lookup.new.Given as goal

-- the declarations so far
abbrev pub invariant-loop-at : goal.invariant-loop-at
invariant-loop-at l = map flat_view l.flats ≡ take l.at (flats_of l.config (declarations_view l.places.declarations.now))

use Rattle.std.proofs.Common.{◌≡◌, drop}
use Rattle.texts.specs.Names.{is_in}
use Rattle.warnings.specs.Keys.{names_view}
use Rattle.warnings.proofs.keys.is_in.Given as goal

abbrev pub invariant-loop-other : goal.invariant-loop-other
invariant-loop-other l = is_in l.name (names_view (drop l.other-index l.names)) ≡ is_in l.name (names_view l.names)

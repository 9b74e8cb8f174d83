use Rattle.std.proofs.Common.{◌≡◌, ◌-◌, map}
use Rattle.open_types.specs.Open.{open_view}
use Rattle.warnings.specs.Flat.{flat_view}
use Rattle.warnings.specs.Through.{behind_some}
use Rattle.warnings.specs.Flattened.{next_type, whole}
use Rattle.warnings.specs.declared.through.TheConstants.{DEPTH}
use Rattle.warnings.proofs.flattened.whole.Given as goal

-- what it stands for behind as many as are left is that of the whole
abbrev pub invariant-loop-passed : goal.invariant-loop-passed
invariant-loop-passed l = behind_some (next_type (map flat_view l.flats)) (DEPTH - l._passed) (open_view l.of) ≡ whole (map flat_view l.flats) (open_view l.initial.of)

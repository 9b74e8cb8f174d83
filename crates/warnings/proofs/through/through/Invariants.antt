use Rattle.std.proofs.Common.{◌≡◌, ◌-◌}
use Rattle.written_types.specs.Written.{written_view}
use Rattle.warnings.specs.Through.{declarations_of, through}
use Rattle.warnings.specs.declared.through.TheConstants.{DEPTH}
use Rattle.warnings.proofs.through.through.Given as goal

-- what it stands for behind as many as are left is that of the whole
abbrev pub invariant-loop-passed : goal.invariant-loop-passed
invariant-loop-passed l = through l.role (declarations_of l.places) (DEPTH - l._passed) (written_view l.of) ≡ through l.role (declarations_of l.places) DEPTH (written_view l.initial.of)

use Rattle.std.proofs.Common.{◌≡◌, ◌++◌, length, map}
use Rattle.file_derivation.specs.LeftOut.{told_of_file}
use Rattle.file_derivation.proofs.left_out.told_of_files.Given as goal

abbrev pub invariant-faults : goal.invariant-faults
invariant-faults l = l.lines ++ map told_of_file l.rest ≡ map told_of_file l.faults

abbrev pub decreases-faults : goal.decreases-faults
decreases-faults l = length l.rest

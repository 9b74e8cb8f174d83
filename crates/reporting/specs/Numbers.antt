-- The exit numbers of the statuses.
use Rattle.std.specs.Prelude.{ℕ}
use Rattle.reporting.specs.declared.status.Status.{Status}
use Rattle.reporting.specs.declared.status.Status.TheVariants.{Done, Refused, Usage, ReadFault, WriteFault, Memory, FileFault}

abbrev pub number_of : Status → ℕ
number_of Done = 0
number_of (Refused kind) = 1
number_of Usage = 2
number_of ReadFault = 3
number_of WriteFault = 4
number_of Memory = 5
number_of FileFault = 6

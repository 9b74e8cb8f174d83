use Rattle.std.proofs.Common.{◌≡◌, length}
use Rattle.configuration.specs.Configuration.{with_rows}
use Rattle.file_derivation.proofs.rows.push_rows.Given as goal

abbrev pub invariant-rows : goal.invariant-rows
invariant-rows l = with_rows l.config l.rest ≡ with_rows l.initial.config l.rows

abbrev pub decreases-rows : goal.decreases-rows
decreases-rows l = length l.rest

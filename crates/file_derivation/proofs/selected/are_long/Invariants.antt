use Rattle.std.proofs.Common.{◌≡◌, ◌+◌, length, map}
use Rattle.gathering.specs.Files.{most_bytes}
use Rattle.file_derivation.specs.Outcomes.{bytes_of}
use Rattle.file_derivation.proofs.selected.are_long.Given as goal

abbrev pub invariant-items : goal.invariant-items
invariant-items l = bytes_of (map (λ i. i.now) l.items) + l.left ≡ most_bytes + bytes_of (map (λ i. i.now) l.rest)

abbrev pub decreases-items : goal.decreases-items
decreases-items l = length l.rest

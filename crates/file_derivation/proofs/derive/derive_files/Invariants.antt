use Rattle.std.proofs.Common.{map, take}
use Rattle.gathering.specs.Files.{Gathers, file_of}
use Rattle.file_derivation.proofs.derive.derive_files.Given as goal

-- the files so far are gathered
abbrev pub invariant-loop-source : goal.invariant-loop-source
invariant-loop-source l = Gathers (map file_of (take l.source-index l.sources)) l.gathered

-- What a caller knows of the files in memory.
use Rattle.std.specs.Prelude.{◌≡◌, ◌+◌, ◌-◌, ◌^◌, ℕ, List, min}
use Rattle.std.specs.declared.option.Option.{Option}
use Rattle.files.specs.declared.memory.HonestFiles.{HonestFiles}
use Rattle.files.specs.declared.memory.MemoryFiles.{MemoryFiles}
use Rattle.files.specs.Faults.{fault_path}
use Rattle.files.specs.declared.cause.Cause.{Cause}
use Rattle.files.specs.Held.{first_at}

-- the bytes of the file at a path
abbrev pub honest_held : HonestFiles → List ℕ → Option (List ℕ)
honest_held files = first_at files.files.items

-- the path of the last fault
abbrev pub honest_failed : HonestFiles → Option (List ℕ)
honest_failed files = fault_path files.faults

-- the cause of the last fault
abbrev pub honest_why : HonestFiles → Cause
honest_why files = files.faults.cause

-- how many faults there were, up to 2^64 - 1
abbrev pub honest_faults : HonestFiles → ℕ
honest_faults files = files.faults.count

-- the bytes of the file at a path
abbrev pub memory_held : MemoryFiles → List ℕ → Option (List ℕ)
memory_held files = honest_held files.honest

-- the path of the last fault
abbrev pub memory_failed : MemoryFiles → Option (List ℕ)
memory_failed files = honest_failed files.honest

-- the cause of the last fault
abbrev pub memory_why : MemoryFiles → Cause
memory_why files = honest_why files.honest

-- how many faults there were, up to 2^64 - 1
abbrev pub memory_faults : MemoryFiles → ℕ
memory_faults files = honest_faults files.honest

-- the numbers, from 0, of the calls that are to fail
abbrev pub memory_fails : MemoryFiles → List ℕ
memory_fails files = files.fails.items

-- how many calls there were, up to 2^64 - 1
abbrev pub memory_calls : MemoryFiles → ℕ
memory_calls files = files.calls

-- a call was counted, and the calls that are to fail stay
pub record MemoryCounts (old new : MemoryFiles) : Type 0 where
  pub calls : memory_calls new ≡ min (memory_calls old + 1) (2 ^ 64 - 1)
  pub fails : memory_fails new ≡ memory_fails old

-- The faults of files.
use Rattle.std.specs.Prelude.{ℕ, List, option_map, string_bytes}
use Rattle.std.specs.declared.option.Option.{Option}
use Rattle.files.specs.declared.faults.Faults.{Faults}

-- the path of the last fault, if there was one
abbrev pub fault_path : Faults → Option (List ℕ)
fault_path faults = option_map string_bytes faults.path

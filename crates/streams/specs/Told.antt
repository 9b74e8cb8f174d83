-- The bytes of a source or a sink, where they are told.
use Rattle.std.specs.Prelude.{◌≡◌, ◌≤◌, ℕ, List, length, take, IfSome}
use Rattle.std.specs.Io.KnownBytes.{Appends}
use Rattle.std.specs.declared.option.Option.{Option}

-- these are all the bytes, where they are told
abbrev pub IsAll : Option (List ℕ) → List ℕ → Type 0
IsAll told bytes = IfSome told (λ xs. xs ≡ bytes)

-- the bytes grew by a front of these, where they are told
abbrev pub AppendsPart : Option (List ℕ) → Option (List ℕ) → List ℕ → Type 0
AppendsPart old new bytes = (count : ℕ) × (count ≤ length bytes) × Appends old new (take count bytes)

-- What is held at the paths of files.
use Rattle.std.specs.Prelude.{◌≡◌, ℕ, List, Bool, Some, None, IsTrue, String, Vec, bytes_eq, option_map, string_bytes}
use Rattle.std.specs.List.{find}
use Rattle.std.specs.declared.option.Option.{Option}
use Rattle.std.specs.declared.alloc.Global.{Global}

-- a file of these bytes is held, where it is told
abbrev pub IsHeld : Bool → Option (List ℕ) → List ℕ → Type 0
IsHeld tells held bytes = IsTrue tells → held ≡ Some bytes

-- it is told that no file is held
abbrev pub IsMissing : Bool → Option (List ℕ) → Type 0
IsMissing tells held = IsTrue tells × (held ≡ None)

-- the bytes of the first file of this path
abbrev pub first_at : List (String Global × Vec ℕ Global) → List ℕ → Option (List ℕ)
first_at files path = option_map (λ file. file.1.items) (find (λ file. bytes_eq (string_bytes file.0) path) files)

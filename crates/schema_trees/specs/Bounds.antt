-- What binds the values of one type (JSON Schema 2020-12, Validation, 6.2).
use Rattle.std.specs.Prelude.{ℤ, Option, None}
use Rattle.schema_trees.specs.declared.bounds.Bounds.{Bounds}

-- a least number, where there is one
abbrev pub at_least : Option ℤ → Bounds
at_least minimum = record { minimum = minimum }

abbrev pub no_bounds : Bounds
no_bounds = at_least None

-- What a field or a variant is called in JSON (serde.rs, "Container attributes", `rename_all`; "Field attributes", `rename`).
use Rattle.std.specs.Prelude.{ℕ, List, [], ◌∷◌, Option, Some, None, Result, Ok, Err}
use Rattle.diag.specs.declared.rename_rule.RenameRule.{RenameRule}
use Rattle.diag.specs.declared.rename_row.RenamePlace.{RenamePlace}
use Rattle.diag.specs.declared.rename_row.RenameRow.{RenameRow}
use Rattle.diag.specs.RenameRows.{row_to}
use Rattle.serde_rules.specs.declared.rows.NoRow.{NoRow}

abbrev pub no_row : NoRow
no_row = record {}

-- a row is wanted
abbrev pub by_row : Option (List ℕ) → Result (Option (List ℕ)) NoRow
by_row None = Err no_row
by_row (Some name) = Ok (Some name)

-- what a rule says, where there is one
abbrev pub by_rule : RenamePlace → List RenameRow → List ℕ → Option RenameRule → Result (Option (List ℕ)) NoRow
by_rule place rows value None = Ok None
by_rule place rows value (Some rule) = by_row (row_to rule place value rows)

-- the new name, where there is one: what is given, unless it is empty, or else what the rule says
abbrev pub new_name : RenamePlace → List RenameRow → List ℕ → Option (List ℕ) → Option RenameRule → Result (Option (List ℕ)) NoRow
new_name place rows value None rule = by_rule place rows value rule
new_name place rows value (Some []) rule = by_rule place rows value rule
new_name place rows value (Some (b ∷ bs)) rule = Ok (Some (b ∷ bs))

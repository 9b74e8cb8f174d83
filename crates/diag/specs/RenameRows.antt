-- What names become by the rows of a list.
use Rattle.std.specs.Prelude.{ℕ, List, Bool, true, false, ◌&&◌, Option, option_map, find, bytes_eq}
use Rattle.diag.specs.declared.rename_rule.RenameRule.{RenameRule}
use Rattle.diag.specs.declared.rename_row.RenamePlace.{RenamePlace}
use Rattle.diag.specs.declared.rename_row.RenamePlace.TheVariants.{Field, Variant}
use Rattle.diag.specs.declared.rename_row.RenameRow.{RenameRow}
use Rattle.diag.specs.RenameRules.{name_of}

abbrev pub same_place : RenamePlace → RenamePlace → Bool
same_place Field Field = true
same_place Field Variant = false
same_place Variant Field = false
same_place Variant Variant = true

-- rules are the same where their names are
abbrev pub same_rule : RenameRule → RenameRule → Bool
same_rule one other = bytes_eq (name_of one) (name_of other)

-- the row is for this rule, this place and this text
abbrev pub is_for : RenameRule → RenamePlace → List ℕ → RenameRow → Bool
is_for rule place value row = same_rule rule row.rule && same_place place row.place && bytes_eq value row.from

-- what the first row says that is for these
abbrev pub row_to : RenameRule → RenamePlace → List ℕ → List RenameRow → Option (List ℕ)
row_to rule place value rows = option_map (λ row. row.to) (find (is_for rule place value) rows)

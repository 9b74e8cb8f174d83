-- Rows of names serve: no name misses its row with them, and each does without.
use Rattle.std.specs.Prelude.{◌≡◌, List, [], ◌++◌, false, Some}
use Rattle.std.specs.List.{AllByRecursion}
use Rattle.diag.specs.Refusal.{IsRefusal, RefusesNone}
use Rattle.diag.specs.declared.error.DeriveError.{DeriveError}
use Rattle.diag.specs.declared.kind.Kind.TheVariants.{MissingRow}
use Rattle.diag.specs.declared.rename_row.RenameRow.{RenameRow}
use Rattle.diag.specs.RenameRows.{row_to}
use Rattle.serde_rules.specs.declared.value.SerdeValue.{SerdeValue}
use Rattle.syntax.specs.Items.{DeclaredItem}
use Rattle.serde_names.specs.declared.asked.Asked.{Asked}
use Rattle.serde_names.specs.Asked.{is_given, asked_of, asked_of_item, IsRowlessItem, AreRowlessItems}
use Rattle.serde_names.specs.Names.{name_by, row_message}
use Rattle.renaming.specs.Cases.{renamed}
use Rattle.renaming.specs.Rows.{AreRowsOf}

-- what serde makes of each name is what its row says, and is its name
pub record Serve (rows : List RenameRow) (a : Asked) : Type 0 where
  pub row : row_to a.rule a.place a.ident.text rows ≡ renamed a.rule a.place a.ident.text
  pub name : (value : SerdeValue) → is_given value.rename ≡ false → name_by a.place rows (Some a.rule) value a.ident ≡ renamed a.rule a.place a.ident.text

-- The law: the rows of names serve each of them.
abbrev pub RowsServe : Type 0
RowsServe = (names : List Asked) (rows : List RenameRow) → AreRowsOf names rows → AllByRecursion (Serve rows) names

-- with these rows no name in the declarations misses its row
abbrev pub MissNoRow : List DeclaredItem → List RenameRow → Type 0
MissNoRow ds rows = RefusesNone (AreRowlessItems rows ds)

-- The law: with the rows of its names no name misses its row.
abbrev pub RowsSuffice : Type 0
RowsSuffice = (ds : List DeclaredItem) (rows : List RenameRow) → AreRowsOf (asked_of ds) rows → MissNoRow ds rows

-- The law: nor with these rows behind others, such as those of a configuration.
abbrev pub RowsSufficeBehind : Type 0
RowsSufficeBehind = (ds : List DeclaredItem) (front rows : List RenameRow) → AreRowsOf (asked_of ds) rows → MissNoRow ds (front ++ rows)

-- without rows the name misses its row
abbrev pub IsWanted : DeclaredItem → Asked → Type 0
IsWanted d a = (e : DeriveError) → IsRefusal MissingRow a.ident.span (row_message a.rule a.ident.text) e → IsRowlessItem [] d e

-- The law: no row is idle. Without rows each name of a declaration misses its row.
abbrev pub RowsAreWanted : Type 0
RowsAreWanted = (d : DeclaredItem) → AllByRecursion (IsWanted d) (asked_of_item d)

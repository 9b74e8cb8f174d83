-- What an identifier is called in JSON (serde.rs, "Container attributes", `rename_all`; "Field attributes", `rename`), and how it is refused where its row is missing.
use Rattle.std.specs.Prelude.{◌≡◌, ℕ, List, ◌++◌, Option, Some, None, Result, Ok, Err, codes}
use Rattle.diag.specs.Refusal.{IsRefusal}
use Rattle.diag.specs.RenameRules.{name_of}
use Rattle.diag.specs.declared.error.DeriveError.{DeriveError}
use Rattle.diag.specs.declared.kind.Kind.TheVariants.{MissingRow}
use Rattle.diag.specs.declared.rename_rule.RenameRule.{RenameRule}
use Rattle.diag.specs.declared.rename_row.RenameRow.{RenameRow}
use Rattle.diag.specs.declared.rename_row.RenamePlace.{RenamePlace}
use Rattle.written_types.specs.declared.written.Ident.{Ident}
use Rattle.serde_rules.specs.declared.value.SerdeValue.{SerdeValue}
use Rattle.serde_rules.specs.declared.rows.NoRow.{NoRow}
use Rattle.serde_rules.specs.Names.{new_name}

-- a new name, or else the one that was; none where a row is missing
abbrev pub or_as_it_was : List ℕ → Result (Option (List ℕ)) NoRow → Option (List ℕ)
or_as_it_was name (Ok None) = Some name
or_as_it_was name (Ok (Some other)) = Some other
or_as_it_was name (Err e) = None

-- the name of an identifier in JSON: the given one, or by the row of the rule, or the identifier; none where the rule has no row
abbrev pub name_by : RenamePlace → List RenameRow → Option RenameRule → SerdeValue → Ident → Option (List ℕ)
name_by place rows rule value x = or_as_it_was x.text (new_name place rows x.text value.rename rule)

-- the name, where the identifier stands
abbrev pub named_at : Ident → List ℕ → Ident
named_at x name = record { text = name; raw = x.raw; span = x.span }

abbrev pub row_message : RenameRule → List ℕ → List ℕ
row_message rule name = codes "no row for " ++ (name_of rule ++ (codes " of " ++ name))

-- the error refuses the identifier: the row of the rule is needed and missing
abbrev pub IsUnwritten : RenamePlace → List RenameRow → Option RenameRule → SerdeValue → Ident → DeriveError → Type 0
IsUnwritten place rows None value x e = ⊥
IsUnwritten place rows (Some rule) value x e = (name_by place rows (Some rule) value x ≡ None) × IsRefusal MissingRow x.span (row_message rule x.text) e

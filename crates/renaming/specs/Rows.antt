-- The rows of names, in their order.
use Rattle.std.specs.Prelude.{◌≡◌, ℕ, List, Bool, cond, Option, Some, None, option_map, IsSome}
use Rattle.std.specs.BTreeMap.{BTreeMap, get}
use Rattle.std.specs.Cmp.{IsTotalOrder, on_total, then_total}
use Rattle.std.specs.Cmp.Lexicographic.{slice_cmp, nat_list_cmp_total}
use Rattle.std.specs.List.{AllByRecursion, list_any}
use Rattle.std.specs.List.Sorted.{IsStrictlySortedBy}
use Rattle.std.specs.Ordering.{nat_cmp, then_cmp, on, is_eq}
use Rattle.std.specs.declared.cmp.Ordering.{Ordering}
use Rattle.diag.specs.RenameRules.{name_of}
use Rattle.diag.specs.declared.rename_row.RenameRow.{RenameRow}
use Rattle.texts.specs.Lists.{Somewhere}
use Rattle.configuration.specs.Configuration.{place_name}
use Rattle.serde_names.specs.declared.asked.Asked.{Asked}
use Rattle.renaming.specs.declared.row_key.RowKey.{RowKey}
use Rattle.renaming.specs.Cases.{renamed}

-- ---- what rows are for

-- by the names of rules, then of places, then by the names that rows are for, as bytes
abbrev pub key_cmp : RowKey → RowKey → Ordering
key_cmp = then_cmp (on (λ k. name_of k.rule) (slice_cmp nat_cmp)) (then_cmp (on (λ k. place_name k.place) (slice_cmp nat_cmp)) (on (λ k. k.from) (slice_cmp nat_cmp)))

pub key_cmp_total : IsTotalOrder key_cmp
key_cmp_total = then_total (on_total (λ k. name_of k.rule) nat_list_cmp_total) (then_total (on_total (λ k. place_name k.place) nat_list_cmp_total) (on_total (λ k. k.from) nat_list_cmp_total))

abbrev pub key_of : Asked → RowKey
key_of a = record { rule = a.rule; place = a.place; from = a.ident.text }

abbrev pub key_in : RenameRow → RowKey
key_in row = record { rule = row.rule; place = row.place; from = row.from }

-- ---- the rows

-- what serde makes of what a row is for
abbrev pub name_for : RowKey → Option (List ℕ)
name_for k = renamed k.rule k.place k.from

abbrev pub row_with : RowKey → List ℕ → RenameRow
row_with k to = record { rule = k.rule; place = k.place; from = k.from; to = to }

-- the row of a name, where serde makes something of it
abbrev pub row_of : Asked → Option RenameRow
row_of a = option_map (row_with (key_of a)) (name_for (key_of a))

-- These are the rows of the names: in order, each once, and each of one of the names; and each name has its row.
pub record AreRowsOf (names : List Asked) (rows : List RenameRow) : Type 0 where
  pub ordered : IsStrictlySortedBy (on key_in key_cmp) rows
  pub asked : AllByRecursion (λ row. Somewhere (λ a. row_of a ≡ Some row) names) rows
  pub given : AllByRecursion (λ a. Somewhere (λ row. row_of a ≡ Some row) rows) names

-- ---- rows under what they are for

-- one of the names is that for which a row is
abbrev pub is_asked : RowKey → List Asked → Bool
is_asked k names = list_any (λ a. is_eq (key_cmp k (key_of a))) names

-- the table has what serde makes of each of the names, and nothing else
pub record IsTableOf (names : List Asked) (table : BTreeMap RowKey (List ℕ)) : Type 0 where
  pub named : AllByRecursion (λ a. IsSome (name_for (key_of a))) names
  pub look : (k : RowKey) → get key_cmp table k ≡ cond (is_asked k names) (name_for k) None

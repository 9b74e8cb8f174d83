-- With the rows of names none misses its row, and without rows each does.
use Rattle.std.proofs.Common.{ℕ, List, [], ◌∷◌, ◌++◌, Bool, true, false, cond, find, option_map, Option, Some, None, IsSome, refl, subst, inl, inr}
use Rattle.std.specs.List.{AllByRecursion, flat_map}
use Rattle.diag.specs.Refusal.{IsRefusal}
use Rattle.diag.specs.declared.error.DeriveError.{DeriveError}
use Rattle.diag.specs.declared.kind.Kind.TheVariants.{MissingRow}
use Rattle.diag.specs.declared.rename_row.RenameRow.{RenameRow}
use Rattle.diag.specs.RenameRows.{is_for, row_to}
use Rattle.texts.specs.Lists.{Somewhere}
use Rattle.syntax.specs.Items.{DeclaredItem}
use Rattle.serde_names.specs.declared.asked.Asked.{Asked}
use Rattle.serde_names.specs.Asked.{asked_of, asked_of_item, IsRowless, IsRowlessItem, AreRowlessItems}
use Rattle.serde_names.specs.Names.{row_message}
use Rattle.renaming.specs.Law.{RowsSuffice, RowsSufficeBehind, RowsAreWanted}
use Rattle.renaming.proofs.Keys.{RulesHaveOwnNames}
use Rattle.renaming.proofs.Lists.{all_weaker, all-flat_map, met}
use Rattle.renaming.proofs.Serving.{all_have_rows}

-- ---- with rows

module _ (rows : List RenameRow) (e : DeriveError) where
  abbrev HasRow : Asked → Type 0
  HasRow a = IsSome (row_to a.rule a.place a.ident.text rows)

  no_rowless : (a : Asked) → IsRowless rows a e → HasRow a → ⊥
  no_rowless a rowless has = let nothing : IsSome {T = List ℕ} None = subst IsSome rowless.0 has in cc

  no_rowless_item : (d : DeclaredItem) → IsRowlessItem rows d e → AllByRecursion HasRow (asked_of_item d) → ⊥
  no_rowless_item d rowless has = met (λ a. IsRowless rows a e) HasRow ⊥ (asked_of_item d) no_rowless rowless has

  no_rowless_items : (ds : List DeclaredItem) → AllByRecursion HasRow (flat_map asked_of_item ds) → AreRowlessItems rows ds e → ⊥
  no_rowless_items ds has rowless =
      met (λ d. IsRowlessItem rows d e) (λ d. AllByRecursion HasRow (asked_of_item d)) ⊥ ds no_rowless_item rowless (all-flat_map HasRow asked_of_item ds has)

pub rows_suffice : RulesHaveOwnNames → RowsSuffice
rows_suffice own ds rows are e rowless = no_rowless_items rows e ds (all_have_rows own (asked_of ds) rows are) rowless

-- what has a row among some has one among these behind others
behind_one : (b : Bool) (row : RenameRow) (found : Option RenameRow) → IsSome (option_map (λ r. r.to) found) → IsSome (option_map (λ r. r.to) (cond b (Some row) found))
behind_one true row found some = refl
behind_one false row found some = some

has_behind : (front rows : List RenameRow) (a : Asked) → IsSome (row_to a.rule a.place a.ident.text rows) → IsSome (row_to a.rule a.place a.ident.text (front ++ rows))
has_behind [] rows a some = some
has_behind (row ∷ front) rows a some = behind_one (is_for a.rule a.place a.ident.text row) row (find (is_for a.rule a.place a.ident.text) (front ++ rows)) (has_behind front rows a some)

pub rows_suffice_behind : RulesHaveOwnNames → RowsSufficeBehind
rows_suffice_behind own ds front rows are e rowless =
    let all = all_weaker (λ a. IsSome (row_to a.rule a.place a.ident.text rows)) (λ a. IsSome (row_to a.rule a.place a.ident.text (front ++ rows))) (asked_of ds) (has_behind front rows) (all_have_rows own (asked_of ds) rows are) in
    no_rowless_items (front ++ rows) e ds all rowless

-- ---- without

-- an error that tells this of the name refuses one of the names
abbrev IsMissed : List Asked → Asked → Type 0
IsMissed names a = (e : DeriveError) → IsRefusal MissingRow a.ident.span (row_message a.rule a.ident.text) e → Somewhere (λ b. IsRowless [] b e) names

all_missed : (names : List Asked) → AllByRecursion (IsMissed names) names
all_missed [] = tt
all_missed (a ∷ names) = (λ e misses. inl (refl, misses), all_weaker (IsMissed names) (IsMissed (a ∷ names)) names (λ b missed e misses. inr (missed e misses)) (all_missed names))

pub rows_are_wanted : RowsAreWanted
rows_are_wanted d = all_missed (asked_of_item d)

-- The rows of names serve them.
use Rattle.std.proofs.Common.{ℕ, List, [], ◌∷◌, Bool, true, false, cond, Option, Some, None, option_map, IsSome, find, bytes_eq, ◌≡◌, refl, ap, sym, ◌∙◌, inl, inr, subst}
use Rattle.std.specs.List.{AllByRecursion}
use Rattle.std.proofs.lemmas.Bool.{cases_Bool, and_parts, and_from}
use Rattle.std.proofs.lemmas.Slice.Eq.{bytes_eq-Decides}
use Rattle.diag.specs.declared.rename_rule.RenameRule.{RenameRule}
use Rattle.diag.specs.declared.rename_row.RenamePlace.{RenamePlace}
use Rattle.diag.specs.declared.rename_row.RenamePlace.TheVariants.{Field, Variant}
use Rattle.diag.specs.declared.rename_row.RenameRow.{RenameRow}
use Rattle.diag.specs.Refusal.{RefusesNone}
use Rattle.diag.specs.RenameRules.{name_of}
use Rattle.diag.specs.RenameRows.{same_place, is_for, row_to}
use Rattle.texts.specs.Lists.{Somewhere}
use Rattle.serde_rules.specs.declared.value.SerdeValue.{SerdeValue}
use Rattle.serde_rules.specs.Names.{by_row, new_name}
use Rattle.serde_names.specs.Asked.{is_given}
use Rattle.serde_names.specs.Names.{or_as_it_was}
use Rattle.serde_names.specs.declared.asked.Asked.{Asked}
use Rattle.renaming.specs.declared.row_key.RowKey.{RowKey}
use Rattle.renaming.specs.Refusals.{IsNameless}
use Rattle.renaming.specs.Cases.{renamed}
use Rattle.renaming.specs.Law.{Serve, RowsServe}
use Rattle.renaming.specs.Rows.{key_of, key_in, name_for, row_with, row_of, AreRowsOf}
use Rattle.renaming.proofs.Keys.{RulesHaveOwnNames, same_key}
use Rattle.renaming.proofs.Lists.{all_weaker, somewhere_weaker, met}

-- ---- the row that a look-up finds

place_means : (one other : RenamePlace) → same_place one other ≡ true → one ≡ other
place_means Field Field e = refl
place_means Field Variant e = absurd (cc)
place_means Variant Field e = absurd (cc)
place_means Variant Variant e = refl

place_itself : (place : RenamePlace) → same_place place place ≡ true
place_itself Field = refl
place_itself Variant = refl

for_key : RowKey → RenameRow → Bool
for_key k row = is_for k.rule k.place k.from row

-- && groups to the left
key_from_row : RulesHaveOwnNames → (k : RowKey) (row : RenameRow) → for_key k row ≡ true → k ≡ key_in row
unfolding for_key
key_from_row own k row e =
    let last : (_ ≡ true) × (bytes_eq k.from row.from ≡ true) = and_parts _ _ e in
    let first : (bytes_eq (name_of k.rule) (name_of row.rule) ≡ true) × (same_place k.place row.place ≡ true) = and_parts _ _ last.0 in
    same_key k (key_in row) (own k.rule row.rule ((bytes_eq-Decides _ _).0 first.0)) (place_means k.place row.place first.1) ((bytes_eq-Decides _ _).0 last.1)

row_for_itself : (row : RenameRow) → for_key (key_in row) row ≡ true
unfolding for_key
row_for_itself row = and_from _ _ (and_from _ _ ((bytes_eq-Decides (name_of row.rule) (name_of row.rule)).1 refl) (place_itself row.place)) ((bytes_eq-Decides row.from row.from).1 refl)

-- a look-up among rows that say what serde makes of what they are for
found_name : RulesHaveOwnNames → (k : RowKey) (rows : List RenameRow) → AllByRecursion (λ row. name_for (key_in row) ≡ Some row.to) rows → Somewhere (λ row. k ≡ key_in row) rows
    → option_map (λ row. row.to) (find (for_key k) rows) ≡ name_for k
found_name own k [] named some = absurd some
found_name own k (row ∷ rows) named some = elim (cases_Bool (for_key k row)) [
  | inl here ↦
      ap (λ b. option_map (λ r. r.to) (cond b (Some row) (find (for_key k) rows))) here ∙ sym named.0 ∙ ap name_for (sym (key_from_row own k row here))
  | inr there ↦
      let later : Somewhere (λ r. k ≡ key_in r) rows = elim some [
        | inl same ↦ let here : for_key k row ≡ true = ap (λ j. for_key j row) same ∙ row_for_itself row in absurd (cc)
        | inr more ↦ more
      ] in
      ap (λ b. option_map (λ r. r.to) (cond b (Some row) (find (for_key k) rows))) there ∙ found_name own k rows named.1 later
]

-- ---- names by their rows

-- the row of a name says what serde makes of what it is for
row_says : (a : Asked) (row : RenameRow) (o : Option (List ℕ)) → o ≡ name_for (key_of a) → option_map (row_with (key_of a)) o ≡ Some row → (key_of a ≡ key_in row) × (name_for (key_of a) ≡ Some row.to)
row_says a row None is made = absurd (cc)
row_says a row (Some to) is made =
    let same : row_with (key_of a) to ≡ row = cc in
    (ap key_in same, sym is ∙ ap (λ r. Some r.to) same)

row_named : (names : List Asked) (row : RenameRow) → Somewhere (λ a. row_of a ≡ Some row) names → name_for (key_in row) ≡ Some row.to
row_named [] row some = absurd some
row_named (a ∷ names) row (inl made) = let says = row_says a row (name_for (key_of a)) refl made in ap name_for (sym says.0) ∙ says.1
row_named (a ∷ names) row (inr some) = row_named names row some

as_row-is : (text : List ℕ) (o : Option (List ℕ)) → or_as_it_was text (by_row o) ≡ o
as_row-is text None = refl
as_row-is text (Some to) = refl

name_by-row : (place : RenamePlace) (rows : List RenameRow) (rule : RenameRule) (value : SerdeValue) (a : Asked) (given : Option (List ℕ)) → given ≡ value.rename → is_given given ≡ false
    → or_as_it_was a.ident.text (new_name place rows a.ident.text given (Some rule)) ≡ row_to rule place a.ident.text rows
name_by-row place rows rule value a None is none = as_row-is a.ident.text (row_to rule place a.ident.text rows)
name_by-row place rows rule value a (Some []) is none = as_row-is a.ident.text (row_to rule place a.ident.text rows)
name_by-row place rows rule value a (Some (b ∷ bs)) is none = absurd (cc)

module _ (own : RulesHaveOwnNames) (names : List Asked) (rows : List RenameRow) (are : AreRowsOf names rows) where
  row_is : (a : Asked) → Somewhere (λ row. row_of a ≡ Some row) rows → row_to a.rule a.place a.ident.text rows ≡ renamed a.rule a.place a.ident.text
  unfolding for_key
  row_is a some =
      found_name own (key_of a) rows (all_weaker (λ row. Somewhere (λ b. row_of b ≡ Some row) names) (λ row. name_for (key_in row) ≡ Some row.to) rows (λ row from. row_named names row from) are.asked)
      (somewhere_weaker (λ row. row_of a ≡ Some row) (λ row. key_of a ≡ key_in row) rows (λ row made. (row_says a row (name_for (key_of a)) refl made).0) some)

  serve : (a : Asked) → Somewhere (λ row. row_of a ≡ Some row) rows → Serve rows a
  serve a some = record {
    row = row_is a some;
    name = λ value none. name_by-row a.place rows a.rule value a value.rename refl none ∙ row_is a some;
  }

  some_row : (a : Asked) → Somewhere (λ row. row_of a ≡ Some row) rows → IsSome (row_to a.rule a.place a.ident.text rows)
  some_row a some =
      let named : (row : RenameRow) × (renamed a.rule a.place a.ident.text ≡ Some row.to) = first rows some in
      subst IsSome (sym (row_is a some ∙ named.1)) refl
    where
      first : (rs : List RenameRow) → Somewhere (λ row. row_of a ≡ Some row) rs → (row : RenameRow) × (renamed a.rule a.place a.ident.text ≡ Some row.to)
      first [] none = absurd none
      first (row ∷ rs) (inl made) = (row, (row_says a row (name_for (key_of a)) refl made).1)
      first (row ∷ rs) (inr more) = first rs more

  pub all_have_rows : AllByRecursion (λ a. IsSome (row_to a.rule a.place a.ident.text rows)) names
  all_have_rows = all_weaker (λ a. Somewhere (λ row. row_of a ≡ Some row) rows) (λ a. IsSome (row_to a.rule a.place a.ident.text rows)) names some_row are.given

  pub all_served : AllByRecursion (Serve rows) names
  all_served = all_weaker (λ a. Somewhere (λ row. row_of a ≡ Some row) rows) (Serve rows) names serve are.given

-- a name that has a row is none of which serde makes nothing
no_row_of : (a : Asked) (rows : List RenameRow) → renamed a.rule a.place a.ident.text ≡ None → Somewhere (λ row. row_of a ≡ Some row) rows → ⊥
no_row_of a [] none some = some
no_row_of a (row ∷ rows) none (inl made) = let nothing : None ≡ Some row = sym (ap (option_map (row_with (key_of a))) none) ∙ made in cc
no_row_of a (row ∷ rows) none (inr some) = no_row_of a rows none some

pub none_nameless : (names : List Asked) (rows : List RenameRow) → AreRowsOf names rows → RefusesNone (λ e. Somewhere (λ a. IsNameless a e) names)
none_nameless names rows are e some =
    met (λ a. IsNameless a e) (λ a. Somewhere (λ row. row_of a ≡ Some row) rows) ⊥ names (λ a nameless given. no_row_of a rows nameless.0 given) some are.given

pub rows_serve : RulesHaveOwnNames → RowsServe
rows_serve = all_served

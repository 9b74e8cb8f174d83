-- Tables of names, and the rows that they have.
use Rattle.std.proofs.Common.{ℕ, List, [], ◌∷◌, ◌++◌, map, true, false, cond, ◌||◌, Option, Some, None, option_map, IsSome, ◌≡◌, refl, ap, sym, ◌∙◌, inl, inr, subst}
use Rattle.std.specs.BTreeMap.{BTreeMap, get, is_at, keys}
use Rattle.std.specs.List.{AllByRecursion}
use Rattle.std.specs.List.Sorted.{IsStrictlySortedBy}
use Rattle.std.specs.Map.{keys_of, lookup}
use Rattle.std.specs.Ordering.{is_eq, on}
use Rattle.std.specs.declared.cmp.Ordering.TheVariants.{Less}
use Rattle.std.proofs.Math.Bool.{or-false}
use Rattle.std.proofs.lemmas.Bool.{cases_Bool, or_right}
use Rattle.std.proofs.lemmas.List.Folds.{list_any-append}
use Rattle.diag.specs.declared.rename_row.RenameRow.{RenameRow}
use Rattle.texts.specs.Lists.{Somewhere}
use Rattle.serde_names.specs.declared.asked.Asked.{Asked}
use Rattle.renaming.specs.declared.row_key.RowKey.{RowKey}
use Rattle.renaming.specs.Rows.{key_cmp, key_of, key_in, name_for, row_with, row_of, is_asked, IsTableOf, AreRowsOf}
use Rattle.renaming.proofs.Keys.{RulesHaveOwnNames, key_found, key_itself, key_turned}
use Rattle.renaming.proofs.Lists.{all-append, all_weaker, all_both, all-map, all_mapped, somewhere_weaker, somewhere-map}

-- ---- one name more

asked-append : (k : RowKey) (names : List Asked) (a : Asked) → is_asked k (names ++ a ∷ []) ≡ (is_asked k names || (is_eq (key_cmp k (key_of a)) || false))
asked-append k names a = list_any-append (λ b. is_eq (key_cmp k (key_of b))) names (a ∷ [])

module _ (own : RulesHaveOwnNames) (names : List Asked) (a : Asked) (to : List ℕ) (old new : BTreeMap RowKey (List ℕ)) (named : name_for (key_of a) ≡ Some to)
    (updates : (k : RowKey) → get key_cmp new k ≡ cond (is_at (key_cmp (key_of a)) k) (Some to) (get key_cmp old k)) (before : IsTableOf names old) where
  look_here : (k : RowKey) → is_eq (key_cmp (key_of a) k) ≡ true → get key_cmp new k ≡ cond (is_asked k (names ++ a ∷ [])) (name_for k) None
  look_here k here =
      let same : key_of a ≡ k = key_found own (key_of a) k here in
      let found : get key_cmp new k ≡ Some to = updates k ∙ ap (λ b. cond b (Some to) (get key_cmp old k)) here in
      let turned : (is_eq (key_cmp k (key_of a)) || false) ≡ true = ap (λ b. b || false) (key_turned k (key_of a) ∙ here) in
      let asked : is_asked k (names ++ a ∷ []) ≡ true = asked-append k names a ∙ or_right (is_asked k names) _ turned in
      found ∙ sym named ∙ ap name_for same ∙ sym (ap (λ b. cond b (name_for k) None) asked)

  look_there : (k : RowKey) → is_eq (key_cmp (key_of a) k) ≡ false → get key_cmp new k ≡ cond (is_asked k (names ++ a ∷ [])) (name_for k) None
  look_there k there =
      let found : get key_cmp new k ≡ get key_cmp old k = updates k ∙ ap (λ b. cond b (Some to) (get key_cmp old k)) there in
      let turned : (is_eq (key_cmp k (key_of a)) || false) ≡ false = ap (λ b. b || false) (key_turned k (key_of a) ∙ there) in
      let asked : is_asked k (names ++ a ∷ []) ≡ is_asked k names = asked-append k names a ∙ ap (λ b. is_asked k names || b) turned ∙ or-false (is_asked k names) in
      found ∙ before.look k ∙ sym (ap (λ b. cond b (name_for k) None) asked)

  pub table_more : IsTableOf (names ++ a ∷ []) new
  table_more = record {
    named = all-append (λ b. IsSome (name_for (key_of b))) names (a ∷ []) before.named (subst IsSome (sym named) refl, tt);
    look = λ k. elim (cases_Bool (is_eq (key_cmp (key_of a) k))) [ inl here ↦ look_here k here | inr there ↦ look_there k there ];
  }

-- ---- the rows of a table

all_below : (k : RowKey) (es : List (RowKey × List ℕ)) → AllByRecursion (λ j. key_cmp k j ≡ Less) (keys_of es)
    → AllByRecursion (λ row. key_cmp k (key_in row) ≡ Less) (map (λ e. row_with e.0 e.1) es)
all_below k [] below = tt
all_below k (e ∷ es) below = (below.0, all_below k es below.1)

rows_ordered : (es : List (RowKey × List ℕ)) → IsStrictlySortedBy key_cmp (keys_of es) → IsStrictlySortedBy (on key_in key_cmp) (map (λ e. row_with e.0 e.1) es)
unfolding IsStrictlySortedBy
rows_ordered [] ordered = tt
rows_ordered (e ∷ es) ordered = (all_below e.0 es ordered.0, rows_ordered es ordered.1)

-- a look-up that finds a text found it at an entry
entry_found : RulesHaveOwnNames → (k : RowKey) (to : List ℕ) (es : List (RowKey × List ℕ)) → lookup (is_at (key_cmp k)) es ≡ Some to → Somewhere (λ e. (k ≡ e.0) × (e.1 ≡ to)) es
entry_found own k to [] found = absurd (cc)
entry_found own k to (e ∷ es) found = elim (cases_Bool (is_at (key_cmp k) e.0)) [
  | inl here ↦
      let value : Some e.1 ≡ Some to = sym (ap (λ b. cond b (Some e.1) (lookup (is_at (key_cmp k)) es)) here) ∙ found in
      let same : e.1 ≡ to = cc in
      inl (key_found own k e.0 here, same)
  | inr there ↦ inr (entry_found own k to es (sym (ap (λ b. cond b (Some e.1) (lookup (is_at (key_cmp k)) es)) there) ∙ found))
]

-- each entry is found under its key, where the keys ascend
first_found : (e : RowKey × List ℕ) (es : List (RowKey × List ℕ)) → lookup (is_at (key_cmp e.0)) (e ∷ es) ≡ Some e.1
first_found e es = ap (λ b. cond b (Some e.1) (lookup (is_at (key_cmp e.0)) es)) (key_itself e.0)

asked_somewhere : RulesHaveOwnNames → (k : RowKey) (names : List Asked) → is_asked k names ≡ true → Somewhere (λ a. k ≡ key_of a) names
asked_somewhere own k [] asked = absurd (cc)
asked_somewhere own k (a ∷ names) asked = elim (cases_Bool (is_eq (key_cmp k (key_of a)))) [
  | inl here ↦ inl (key_found own k (key_of a) here)
  | inr there ↦ inr (asked_somewhere own k names (sym (ap (λ b. b || is_asked k names) there) ∙ asked))
]

all_asked : (names : List Asked) → AllByRecursion (λ a. is_asked (key_of a) names ≡ true) names
all_asked [] = tt
all_asked (a ∷ names) = (
  ap (λ b. b || is_asked (key_of a) names) (key_itself (key_of a)),
  all_weaker (λ b. is_asked (key_of b) names ≡ true) (λ b. is_asked (key_of b) (a ∷ names) ≡ true) names (λ b asked. or_right (is_eq (key_cmp (key_of b) (key_of a))) _ asked) (all_asked names),
)

-- ---- the rows of a table are those of its names

entries_found : (es : List (RowKey × List ℕ)) → IsStrictlySortedBy key_cmp (keys_of es) → AllByRecursion (λ e. lookup (is_at (key_cmp e.0)) es ≡ Some e.1) es
unfolding IsStrictlySortedBy
entries_found [] ordered = tt
entries_found (e ∷ es) ordered = (
  first_found e es,
  all_both (λ d. key_cmp e.0 d.0 ≡ Less) (λ d. lookup (is_at (key_cmp d.0)) es ≡ Some d.1) (λ d. lookup (is_at (key_cmp d.0)) (e ∷ es) ≡ Some d.1) es
      (λ d below found.
      let other : is_at (key_cmp d.0) e.0 ≡ false = key_turned d.0 e.0 ∙ ap is_eq below in
      ap (λ b. cond b (Some e.1) (lookup (is_at (key_cmp d.0)) es)) other ∙ found)
      (all-map (λ k. key_cmp e.0 k ≡ Less) (λ d. d.0) es ordered.0)
      (entries_found es ordered.1),
)

some_is : (o : Option (List ℕ)) → IsSome o → (to : List ℕ) × (o ≡ Some to)
some_is None some = absurd (cc)
some_is (Some to) some = (to, refl)

module _ (own : RulesHaveOwnNames) (names : List Asked) (table : BTreeMap RowKey (List ℕ)) (is : IsTableOf names table) where
  row_asked : (e : RowKey × List ℕ) → get key_cmp table e.0 ≡ Some e.1 → Somewhere (λ a. row_of a ≡ Some (row_with e.0 e.1)) names
  row_asked e found = elim (cases_Bool (is_asked e.0 names)) [
    | inl asked ↦
        let named : name_for e.0 ≡ Some e.1 = sym (ap (λ b. cond b (name_for e.0) None) asked) ∙ sym (is.look e.0) ∙ found in
        somewhere_weaker (λ a. e.0 ≡ key_of a) (λ a. row_of a ≡ Some (row_with e.0 e.1)) names
        (λ a same. ap (λ k. option_map (row_with k) (name_for k)) (sym same) ∙ ap (option_map (row_with e.0)) named) (asked_somewhere own e.0 names asked)
    | inr not_asked ↦
        let nothing : None ≡ Some e.1 = sym (ap (λ b. cond b (name_for e.0) None) not_asked) ∙ sym (is.look e.0) ∙ found in
        absurd (cc)
  ]

  row_given : (a : Asked) → IsSome (name_for (key_of a)) → is_asked (key_of a) names ≡ true → Somewhere (λ row. row_of a ≡ Some row) (map (λ e. row_with e.0 e.1) table.entries)
  row_given a named asked =
      let made : (to : List ℕ) × (name_for (key_of a) ≡ Some to) = some_is (name_for (key_of a)) named in
      let found : get key_cmp table (key_of a) ≡ Some made.0 = is.look (key_of a) ∙ ap (λ b. cond b (name_for (key_of a)) None) asked ∙ made.1 in
      somewhere-map (λ e. (key_of a ≡ e.0) × (e.1 ≡ made.0)) (λ row. row_of a ≡ Some row) (λ e. row_with e.0 e.1) table.entries
      (λ e here. ap (option_map (row_with (key_of a))) made.1 ∙ ap (λ k. Some (row_with k made.0)) here.0 ∙ ap (λ to. Some (row_with e.0 to)) (sym here.1))
      (entry_found own (key_of a) made.0 table.entries found)

  pub rows_of_table : (rows : List RenameRow) → rows ≡ map (λ e. row_with e.0 e.1) table.entries → IsStrictlySortedBy key_cmp (keys table) → AreRowsOf names rows
  rows_of_table rows same ordered = subst (AreRowsOf names) (sym same) (record {
    ordered = rows_ordered table.entries ordered;
    asked = all_mapped (λ row. Somewhere (λ a. row_of a ≡ Some row) names) (λ e. row_with e.0 e.1) table.entries
        (all_weaker (λ e. get key_cmp table e.0 ≡ Some e.1) (λ e. Somewhere (λ a. row_of a ≡ Some (row_with e.0 e.1)) names) table.entries (λ e found. row_asked e found) (entries_found table.entries ordered));
    given = all_both (λ a. IsSome (name_for (key_of a))) (λ a. is_asked (key_of a) names ≡ true) (λ a. Somewhere (λ row. row_of a ≡ Some row) (map (λ e. row_with e.0 e.1) table.entries)) names
        (λ a named asked. row_given a named asked) is.named (all_asked names);
  })

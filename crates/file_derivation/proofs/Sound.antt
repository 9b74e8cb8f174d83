-- Of sound files nothing is told.
use Rattle.std.proofs.Common.{◌≡◌, ◌∙◌, ◌⊎◌, inl, inr, refl, ap, ap₂, sym, subst, ℕ, zero, suc, List, [], ◌∷◌, ◌++◌, length, replicate, Bool, true, false, not, cond, bytes_eq, Some, None, option_map, arith}
use Rattle.std.specs.Prelude.{slice_get}
use Rattle.std.proofs.lemmas.Bool.{false≢true, false_from_ne_true, or_left, or_right}
use Rattle.std.proofs.lemmas.Option.{none-some, same_Some}
use Rattle.std.proofs.lemmas.Slice.Eq.{bytes_eq-Decides}
use Rattle.diag.specs.Diagnostics.{diagnostic}
use Rattle.diag.specs.declared.error.DeriveError.{DeriveError}
use Rattle.diag.specs.declared.error.DeriveError.TheVariants.{Refused}
use Rattle.diag.specs.declared.kind.Kind.TheVariants.{DuplicateName}
use Rattle.diag.specs.declared.rename_row.RenameRow.{RenameRow}
use Rattle.texts.specs.Lists.{Somewhere}
use Rattle.texts.specs.Names.{is_in, IsDistinct, place_in}
use Rattle.written_types.specs.declared.written.Ident.{Ident}
use Rattle.configuration.specs.Configuration.{Configuration, with_rows}
use Rattle.syntax.specs.Items.{DeclaredItem}
use Rattle.scopes.specs.Names.{declared_names, declared_idents, texts, Repeats, duplicate_message}
use Rattle.derive_decl.specs.Faults.{IsFaultyItem, IsFaultyAt}
use Rattle.derive_decl.specs.Resolved.{around_of}
use Rattle.derive_decl.specs.Whole.{resolved_declarations}
use Rattle.shapes.specs.Declarations.{DeclarationOf}
use Rattle.compose.specs.Bounds.{AreBounded, BoundedAreNotRefused}
use Rattle.compose.specs.Faults.{AreClear, AreRefused}
use Rattle.telling.specs.declared.told.Told.{Told}
use Rattle.prepare.specs.declared.file_items.FileAlias.{FileAlias}
use Rattle.prepare.specs.declared.file_items.FileItem.{FileItem}
use Rattle.prepare.specs.Blanks.{text_read}
use Rattle.gathering.specs.Files.{FileOf, AreGathered, HaveAliases}
use Rattle.gathering.specs.Reading.{IsReadAs, told_of, AreRead, nothing_read, is_read, is_refused}
use Rattle.gathering.specs.Laws.{GatheredAsOne, AliasedAsOne, ReadAsOne}
use Rattle.selecting.specs.Clashes.{clash_lines}
use Rattle.selecting.specs.Laws.{SelectedAsOne, AddedAsOne}
use Rattle.selecting.specs.Standing.{unknown_only, unknown_exclude}
use Rattle.selecting.specs.Types.{Adds}
use Rattle.selecting.specs.declared.selection.Selection.{Selection}
use Rattle.file_derivation.specs.Faults.{AreFaults}
use Rattle.file_derivation.specs.Faults as faults
use Rattle.file_derivation.specs.Helps.{Origin, origin_of}
use Rattle.file_derivation.specs.LeftOut.{faulty_name, faulty_names, IsLeftOut, at_fault, needs_one, kept_by, IsRound}
use Rattle.file_derivation.specs.Rounds.{IsTextVerdict, AreTexts, no_text, one_text, IsVerdictAt, AreVerdicts, none_yet, one_more, LeavesFaults, nothing_more, one_round}
use Rattle.file_derivation.specs.declared.judged.Judged.{Judged}
use Rattle.file_derivation.specs.declared.judged.Verdict.{Verdict}
use Rattle.file_derivation.specs.declared.judged.Verdict.TheVariants.{Fault, Sound}
use Rattle.file_derivation.proofs.Judging.{names_behind}
use Rattle.serde_names.specs.Asked.{asked_of}
use Rattle.renaming.specs.Rows.{AreRowsOf}
use Rattle.file_derivation.specs.Outcomes.{names_of, Selects, RefusesSelected, of_depth, of_length, of_items, of_clashes, of_declarations, of_bounds, AreTold, of_files, of_only, of_exclude, of_selected, AreLeft, all_are, some_are, AreSound, SoundAreNotTold}

-- ---- names

in_at : (names : List (List ℕ)) (at : ℕ) (name : List ℕ) → slice_get names at ≡ Some name → is_in name names ≡ true
in_at [] at name e = absurd (none-some name e)
in_at (n ∷ names) zero name e = or_left (bytes_eq name n) (is_in name names) ((bytes_eq-Decides name n).1 (sym (same_Some n name e)))
in_at (n ∷ names) (suc at) name e = or_right (bytes_eq name n) (is_in name names) (in_at names at name e)

found_later : (n : List ℕ) (names : List (List ℕ)) (at : ℕ) (name : List ℕ) (b : Bool) → bytes_eq name n ≡ b → is_in n names ≡ false → is_in name names ≡ true → place_in name names ≡ Some at
    → cond b (Some 0) (option_map suc (place_in name names)) ≡ Some (suc at)
found_later n names at name true same once twice found =
    let one : name ≡ n = (bytes_eq-Decides name n).0 same in
    let again : is_in n names ≡ true = subst (λ v. is_in v names ≡ true) one twice in
    cc
found_later n names at name false other once twice found = ap (option_map suc) found

-- the place of a name that stands once
found_at : (names : List (List ℕ)) (at : ℕ) (name : List ℕ) → IsDistinct names → slice_get names at ≡ Some name → place_in name names ≡ Some at
found_at [] at name d e = absurd (none-some name e)
found_at (n ∷ names) zero name d e = ap (λ b. cond b (Some 0) (option_map suc (place_in name names))) ((bytes_eq-Decides name n).1 (sym (same_Some n name e)))
found_at (n ∷ names) (suc at) name d e = found_later n names at name (bytes_eq name n) refl d.0 (in_at names at name e) (found_at names at name d.1 e)

names_at : (ds : List DeclaredItem) (at : ℕ) (d : DeclaredItem) → slice_get ds at ≡ Some d → slice_get (declared_names ds) at ≡ Some d.ident.text
names_at [] at d e = absurd (none-some d e)
names_at (x ∷ ds) zero d e = ap (λ v. Some v.ident.text) (same_Some x d e)
names_at (x ∷ ds) (suc at) d e = names_at ds at d e

texts_are : (ds : List DeclaredItem) → texts (declared_idents ds) ≡ declared_names ds
texts_are [] = refl
texts_are (d ∷ ds) = ap (λ v. d.ident.text ∷ v) (texts_are ds)

abbrev pub RepeatOrNot : Type 0
RepeatOrNot = (xs : List Ident) → IsDistinct (texts xs) ⊎ ((x : Ident) × Repeats xs x)

somewhere_at : {A : Type 0} (P : A → Type 0) (xs : List A) (at : ℕ) (x : A) → slice_get xs at ≡ Some x → P x → Somewhere P xs
somewhere_at P [] at x e h = absurd (none-some x e)
somewhere_at P (y ∷ xs) zero x e h = inl (subst P (sym (same_Some y x e)) h)
somewhere_at P (y ∷ xs) (suc at) x e h = inr (somewhere_at P xs at x e h)

-- ---- declarations that are clear

module _ (decide : RepeatOrNot) (c : Configuration) (ds : List DeclaredItem) (clear : AreClear c ds) where
  distinct : IsDistinct (declared_names ds)
  distinct = subst IsDistinct (texts_are ds) (elim (decide (declared_idents ds)) [
    | inl once ↦ once
    | inr (x, twice) ↦ absurd (clear.faultless (Refused (diagnostic DuplicateName x.span (duplicate_message x.text) ∷ [])) (inl (x, twice, refl)))
  ])

  none_at : (at : ℕ) (e : DeriveError) → IsFaultyAt c ds at e → ⊥
  none_at at e (d, found, inl second) = second.0 (found_at (declared_names ds) at d.ident.text distinct (names_at ds at d found))
  none_at at e (d, found, inr itself) = clear.faultless e (inr (somewhere_at (λ x. IsFaultyItem (around_of c ds x.ident.text x.generics) x e) ds at d found itself.1))

  no_faults : {o : Origin} {n : ℕ} {faults : List Told} → AreFaults c ds o n faults → faults ≡ []
  no_faults faults.none_yet = refl
  no_faults (faults.one_more None more none) = no_faults more
  no_faults (faults.one_more {at = at} (Some told) more (x, i, d, found, from, fault, is)) = absurd (none_at at (Refused d) fault)

  sound_at : (o : Origin) (at : ℕ) (d : DeclaredItem) (i : FileItem) (v : Verdict) → IsVerdictAt c ds o at d v → faulty_name i v ≡ []
  sound_at o at d i (Fault told) (x, j, refusal, found, from, fault, is) = absurd (none_at at (Refused refusal) fault)
  sound_at o at d i (Sound span) is = refl

  no_verdicts : {o : Origin} {n : ℕ} {judged : List Judged} → AreVerdicts c ds o n judged → faulty_names judged ≡ []
  no_verdicts none_yet = refl
  no_verdicts {o = o} (one_more {at = at} {judged = judged} {d = d} j more found placed is) = names_behind judged j ∙ ap₂ (λ (a b : List (List ℕ)). a ++ b) (no_verdicts more) (sound_at o at d j.item.now j.verdict is)

  not_refused : BoundedAreNotRefused → ((ss : List DeclarationOf) → resolved_declarations c ds ≡ Some ss → AreBounded c ss) → (e : DeriveError) → AreRefused c ds e → ⊥
  not_refused law bounded e (inl (inl (span, other, refusal))) = absurd (none-some span (sym clear.derivable ∙ other))
  not_refused law bounded e (inl (inr faulty)) = clear.faultless e faulty.1
  not_refused law bounded e (inr beyond) = law c (declared_idents ds) beyond.1.0 e (bounded beyond.1.0 beyond.1.1) beyond.1.2

-- ---- nothing is left out

no_one_out : {items : List FileItem} {name : List ℕ} → IsLeftOut items [] name → ⊥
no_one_out (at_fault e) = false≢true e
no_one_out (needs_one i one named more) = no_one_out more

all_kept : (is_out : List ℕ → Bool) (items : List FileItem) → ((name : List ℕ) → is_out name ≡ false) → kept_by is_out items ≡ items
all_kept is_out [] none = refl
all_kept is_out (i ∷ items) none = ap₂ (λ (b : Bool) (rest : List FileItem). cond (not b) (i ∷ rest) rest) (none i.declared.name) (all_kept is_out items none)

-- a round without a fault keeps all
round_keeps : {names : List (List ℕ)} {items kept : List FileItem} {judged : List Judged} {told : List Told} → IsRound names items judged told kept → faulty_names judged ≡ [] → kept ≡ items
round_keeps {items = items} {judged = judged} round none =
    round.others ∙ all_kept round.is_out items (λ name. false_from_ne_true (round.is_out name) (λ out. no_one_out (subst (λ v. IsLeftOut items v name) none ((round.decides name).0 out))))

-- a text that is read is not refused
sound_text : ReadAsOne → (names : List (List ℕ)) (i : FileItem) (es : List DeclaredItem) (v : Verdict) → IsReadAs (text_read i) es → IsTextVerdict names i v → faulty_name i v ≡ []
sound_text law names i es (Fault told) r (d, refused, is) =
    let all = law names (i ∷ []) (replicate (length es) i ++ []) [] (es ++ []) [] (told_of names i d ∷ []) (is_read r nothing_read) (is_refused refused nothing_read) in
    let none : told_of names i d ∷ [] ≡ [] = all.2 in
    cc
sound_text law names i es (Sound span) r is = refl

sound_texts : ReadAsOne → {names : List (List ℕ)} {items from : List FileItem} {ds : List DeclaredItem} {told : List Told} {judged : List Judged} → AreRead names items from ds told → told ≡ [] → AreTexts names items judged → faulty_names judged ≡ []
sound_texts law nothing_read e no_text = refl
sound_texts law {names = names} (is_read {i = i} {es = es} r more) e (one_text j is rest) = ap₂ (λ (a b : List (List ℕ)). a ++ b) (sound_text law names i es j.verdict r is) (sound_texts law more e rest)
sound_texts law (is_refused r more) e (one_text j is rest) = cc

-- ---- all stages

module _ (law : BoundedAreNotRefused) (decide : RepeatOrNot) (gathered : GatheredAsOne) (aliased : AliasedAsOne) (read : ReadAsOne) (selected : SelectedAsOne) (added : AddedAsOne) (s : Selection) (c : Configuration) (files : List FileOf) (h : AreSound s c files) where
  read_as_one : {chosen from : List FileItem} {ds : List DeclaredItem} {faults : List Told} → h.chosen ≡ chosen → AreRead (names_of files) chosen from ds faults → (h.declarations ≡ ds) × (faults ≡ [])
  read_as_one {from = from} {ds = ds} {faults = faults} same r =
      let all = read (names_of files) h.chosen h.from from h.declarations ds faults h.read (subst (λ v. AreRead (names_of files) v from ds faults) (sym same) r) in
      (all.1, all.2)

  -- what is read so is clear, and refused for no bound
  none_refused : {ds : List DeclaredItem} {rows : List RenameRow} → h.declarations ≡ ds → AreRowsOf (asked_of h.declarations) rows → (e : DeriveError) → AreRefused (with_rows h.with_them rows) ds e → ⊥
  none_refused {rows = rows} same rows_are e refused =
      not_refused decide (with_rows h.with_them rows) h.declarations (h.clear rows rows_are) law (h.bounded rows rows_are) e (subst (λ v. AreRefused (with_rows h.with_them rows) v e) (sym same) refused)

  -- by rounds nothing is left out
  same_last : {items last : List FileItem} {told : List Told} (rows : List RenameRow) → h.chosen ≡ items → AreRowsOf (asked_of h.declarations) rows → LeavesFaults s (with_rows h.with_them rows) (names_of files) items told last → h.chosen ≡ last
  same_last rows same rows_are (nothing_more judged none) = same
  same_last rows same rows_are (one_round {judged = judged} all some round more) =
      let one : h.declarations ≡ all.declarations = (read_as_one same all.read).0 in
      let verdicts = subst (λ v. AreVerdicts (with_rows h.with_them rows) v (origin_of (names_of files) s all.from) (length v) judged) (sym one) all.verdicts in
      absurd (some (no_verdicts decide (with_rows h.with_them rows) h.declarations (h.clear rows rows_are) verdicts))

  -- what is left is all that is declared
  same_left : {from : List FileItem} {ds : List DeclaredItem} {rows : List RenameRow} {told : List Told} → AreLeft s h.with_them (names_of files) h.chosen told from ds rows → (h.declarations ≡ ds) × AreRowsOf (asked_of h.declarations) rows
  same_left {rows = rows} (all_are whole r) = let one = (read_as_one refl r.read).0 in (one, subst (λ v. AreRowsOf (asked_of v) rows) (sym one) r.rows_are)
  same_left {rows = rows} (some_are skip few (judged, texts, round) first rows_are faulty last) =
      let kept = sym (round_keeps round (sound_texts read h.read refl texts)) in
      let one = (read_as_one kept first).0 in
      let all_rows = subst (λ v. AreRowsOf (asked_of v) rows) (sym one) rows_are in
      ((read_as_one (same_last rows kept all_rows faulty) last).0, all_rows)

  none_selected : (told : List Told) → RefusesSelected s h.with_them (names_of files) h.chosen h.needed told → ⊥
  none_selected told (of_depth deep) = h.shallow deep
  none_selected told (of_length long) = let short = h.few in absurd (omega arith)
  none_selected told (of_items whole few r some) = some (read_as_one refl r).1
  none_selected told (of_clashes left some) = some (subst (λ v. clash_lines (names_of files) v h.needed ≡ []) (same_left left).0 h.distinct)
  none_selected told (of_declarations {from = from} {ds = ds} {rows = rows} whole r faults some) =
      let same : h.declarations ≡ ds = (read_as_one refl r.read).0 in
      let rows_are = subst (λ v. AreRowsOf (asked_of v) rows) (sym same) r.rows_are in
      some (no_faults decide (with_rows h.with_them rows) h.declarations (h.clear rows rows_are) (subst (λ v. AreFaults (with_rows h.with_them rows) v (origin_of (names_of files) s from) (length v) told) (sym same) faults))
  none_selected told (of_bounds {d = d} left faults refused) = let all = same_left left in none_refused all.0 all.1 (Refused d) refused

  same_all : {items : List FileItem} {faults : List Told} → AreGathered 0 files items faults → (h.items ≡ items) × (faults ≡ [])
  same_all {items = items} {faults = faults} g = gathered 0 files h.items items faults h.declared.0 g

  same_aliases : {aliases : List FileAlias} → HaveAliases 0 files aliases → h.aliases ≡ aliases
  same_aliases {aliases = aliases} have = aliased 0 files h.items h.aliases aliases h.declared.0 h.declared.1 have

  -- what is selected is one thing
  same_selection : {chosen : List FileItem} {needed : List FileAlias} {with_them : Configuration} → Selects s c (names_of files) h.items chosen h.aliases needed with_them
      → (h.chosen ≡ chosen) × (h.needed ≡ needed) × (h.with_them ≡ with_them)
  same_selection {chosen = chosen} {needed = needed} {with_them = with_them} other =
      let one = selected s c (names_of files) h.items h.chosen chosen h.aliases h.needed needed h.selects.selected other.selected in
      (one.0, one.1, added c h.with_them with_them h.needed h.selects.adds (subst (λ v. Adds c v with_them) (sym one.1) other.adds))

  none_of : {items chosen : List FileItem} {aliases needed : List FileAlias} {with_them : Configuration} (told : List Told) → h.items ≡ items → h.aliases ≡ aliases → Selects s c (names_of files) items chosen aliases needed with_them
      → RefusesSelected s with_them (names_of files) chosen needed told → ⊥
  none_of {items = items} {chosen = chosen} {aliases = aliases} {needed = needed} {with_them = with_them} told all beside selects refused =
      let mine = subst (λ v. Selects s c (names_of files) v chosen h.aliases needed with_them) (sym all) (subst (λ v. Selects s c (names_of files) items chosen v needed with_them) (sym beside) selects) in
      let one = same_selection mine in
      none_selected told
      (subst (λ v. RefusesSelected s v (names_of files) h.chosen h.needed told) (sym one.2)
      (subst (λ v. RefusesSelected s with_them (names_of files) v h.needed told) (sym one.0)
      (subst (λ v. RefusesSelected s with_them (names_of files) chosen v told) (sym one.1) refused)))

  not_told : (told : List Told) → AreTold s c files told → ⊥
  not_told told (of_files whole g some) = some (same_all g).1
  not_told told (of_only {name = name} taken found) = absurd (none-some name (sym h.selects.known.0 ∙ subst (λ v. unknown_only v s.only ≡ Some name) (sym (same_all taken.0).0) found))
  not_told told (of_exclude {items = items} {text = text} taken known found) =
      let all = subst (λ v. unknown_exclude (names_of files) items v s.exclude ≡ Some text) (sym (same_aliases taken.1)) found in
      absurd (none-some text (sym h.selects.known.1 ∙ subst (λ v. unknown_exclude (names_of files) v h.aliases s.exclude ≡ Some text) (sym (same_all taken.0).0) all))
  not_told told (of_selected taken selects refused) = none_of told (same_all taken.0).0 (same_aliases taken.1) selects refused

pub sound : BoundedAreNotRefused → RepeatOrNot → GatheredAsOne → AliasedAsOne → ReadAsOne → SelectedAsOne → AddedAsOne → SoundAreNotTold
sound law decide gathered aliased read selected added s c files told h is = not_told law decide gathered aliased read selected added s c files h told is

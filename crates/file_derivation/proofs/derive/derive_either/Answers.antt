use Rattle.std.proofs.Common.{◌≡◌, ◌∙◌, ℕ, [], List, Option, true, false, map, sym, subst}
use Rattle.std.proofs.lemmas.Bool.{true≢false}
use Rattle.std.proofs.lemmas.Result.{err_from_is_err_and}
use Rattle.std.specs.Borrow.{Bor}
use Rattle.prepare.specs.declared.file_items.FileAlias.{FileAlias}
use Rattle.prepare.specs.declared.file_items.FileItem.{FileItem}
use Rattle.telling.specs.declared.told.Told.{Told}
use Rattle.selecting.specs.Elsewhere.{elsewhere_name, found_by}
use Rattle.file_derivation.specs.LeftOut.{told_of_file}
use Rattle.file_derivation.specs.Outcomes.{Selects, DerivesSelected, RefusesSelected, AreDerivedFrom, of_files, of_selected}
use Rattle.file_derivation.proofs.Stages.{some_told, none_told, told_if, if_ok, if_err, not_known}
use Rattle.file_derivation.proofs.derive.derive_either.Goals as goal
use Rattle.file_derivation.proofs.derive.derive_either.Goals.{else-not-selection-via-then-not-selection+else-not-is_empty, else-not-selection-via-else-not-selection}

pub returns-then-not-is_empty-clause-told : goal.returns-then-not-is_empty-clause-told
returns-then-not-is_empty-clause-told c = λ files names gathered have. of_files c.if-not-selection.true gathered (some_told c.is_empty.result c.is_empty.ensures c.if-not-is_empty.true)

pub returns-in_err-know_names-clause-told : goal.returns-in_err-know_names-clause-told
returns-in_err-know_names-clause-told c =
    let none : c.args.selection.now.skip_refused ≡ false → c.args.faults ≡ [] =
    elim c.else-not-selection.branch [
      | else-not-selection-via-then-not-selection+else-not-is_empty w ↦ λ whole. none_told w.is_empty.result w.is_empty.ensures w.if-not-is_empty.false
      | else-not-selection-via-else-not-selection w ↦ λ whole. absurd (true≢false (sym w.if-not-selection.false ∙ whole))
    ] in
    let p = err_from_is_err_and c.from_residual.result c.from_residual.ensures.1 in
    rw (p.1, p.2) (told_if c.in_err-know_names.field-0.0 (λ told is files names gathered have. not_known names (gathered, have, none) is) c.in_err-know_names.ensures.told)

pub returns-clause-derived : goal.returns-clause-derived
returns-clause-derived c =
    let s = c.args.selection.now in
    let config = c.args.config in
    let own = c.args.names.now in
    let items = c.args.items.now in
    let aliases = c.args.aliases.now in
    let impls = c.args.impls.now in
    let chosen = map (λ (i : Bor FileItem). i.now) c.in_ok-selected.selected.items in
    let needed = map (λ (a : Bor FileAlias). a.now) c.in_ok-selected.selected.aliases in
    let with_them = c.select.new.config in
    let none : s.skip_refused ≡ false → c.args.faults ≡ [] =
    elim c.else-not-selection.branch [
      | else-not-selection-via-then-not-selection+else-not-is_empty w ↦ λ whole. none_told w.is_empty.result w.is_empty.ensures w.if-not-is_empty.false
      | else-not-selection-via-else-not-selection w ↦ λ whole. absurd (true≢false (sym w.if-not-selection.false ∙ whole))
    ] in
    let selects : Selects s config own items chosen aliases needed with_them = record { known = c.in_ok-know_names.ensures.known; selected = c.in_ok-selected.ensures.selected; adds = c.in_ok-selected.ensures.added } in
    if_ok c.derive_selected.result
    (λ d derives files names gathered have written.
    let mine = derives (λ whole. c.as_slice.ensures ∙ none whole) in
    let components = d.0 in
    let at = subst (λ (v : List Told). DerivesSelected s with_them own chosen needed (found_by c.in_ok-elsewhere.elsewhere) impls (map told_of_file v) components mine.0) c.as_slice.ensures mine.1 in
    let found_at = subst (λ (v : FileItem → Option (List ℕ)). DerivesSelected s with_them own chosen needed v impls (map told_of_file c.args.faults) components mine.0) c.in_ok-elsewhere.ensures at in
    let found : AreDerivedFrom s config files components mine.0 = record {
      items = items;
      aliases = aliases;
      faults = c.args.faults;
      taken = (gathered, have, none);
      chosen = chosen;
      needed = needed;
      with_them = with_them;
      selects = subst (λ (v : List (List ℕ)). Selects s config v items chosen aliases needed with_them) names selects;
      impls = impls;
      written = written;
      derives = subst (λ (v : List (List ℕ)). DerivesSelected s with_them v chosen needed (elsewhere_name items chosen aliases needed) impls (map told_of_file c.args.faults) components mine.0) names found_at;
    } in
    (mine.0, found, mine.2)) c.derive_selected.ensures.derived

pub returns-clause-told : goal.returns-clause-told
returns-clause-told c =
    let s = c.args.selection.now in
    let config = c.args.config in
    let own = c.args.names.now in
    let items = c.args.items.now in
    let aliases = c.args.aliases.now in
    let chosen = map (λ (i : Bor FileItem). i.now) c.in_ok-selected.selected.items in
    let needed = map (λ (a : Bor FileAlias). a.now) c.in_ok-selected.selected.aliases in
    let with_them = c.select.new.config in
    let none : s.skip_refused ≡ false → c.args.faults ≡ [] =
    elim c.else-not-selection.branch [
      | else-not-selection-via-then-not-selection+else-not-is_empty w ↦ λ whole. none_told w.is_empty.result w.is_empty.ensures w.if-not-is_empty.false
      | else-not-selection-via-else-not-selection w ↦ λ whole. absurd (true≢false (sym w.if-not-selection.false ∙ whole))
    ] in
    let selects : Selects s config own items chosen aliases needed with_them = record { known = c.in_ok-know_names.ensures.known; selected = c.in_ok-selected.ensures.selected; adds = c.in_ok-selected.ensures.added } in
    if_err c.derive_selected.result
    (λ told refuses files names gathered have.
    of_selected (gathered, have, none) (subst (λ (v : List (List ℕ)). Selects s config v items chosen aliases needed with_them) names selects)
    (subst (λ (v : List (List ℕ)). RefusesSelected s with_them v chosen needed told) names refuses)) c.derive_selected.ensures.told

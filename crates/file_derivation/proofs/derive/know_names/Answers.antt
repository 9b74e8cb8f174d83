use Rattle.std.proofs.Common.{◌≡◌, ◌∙◌, ℕ, List, Some, None, option_map, ap, sym, inl, inr}
use Rattle.std.specs.Borrow.{Bor}
use Rattle.selecting.specs.Standing.{unknown_only, unknown_exclude}
use Rattle.file_derivation.proofs.Stages.{told_if}
use Rattle.file_derivation.proofs.derive.know_names.Goals as goal

abbrev shown : Bor (List ℕ) → List ℕ
shown n = n.now

pub returns-in-Some-clause-told : goal.returns-in-Some-clause-told
returns-in-Some-clause-told c =
    let s = c.args.selection.now in
    let items = c.args.items.now in
    let found : unknown_only items s.only ≡ Some c.in-Some.name.now = ap (unknown_only items) (sym c.as_slice.ensures) ∙ sym c.unknown_only.ensures ∙ ap (option_map shown) c.in-Some.is in
    told_if c.in_ok-not_selected.field-0 (λ told is. inl (c.in-Some.name.now, found, is)) c.in_ok-not_selected.ensures

pub returns-in-Some-2-clause-told : goal.returns-in-Some-2-clause-told
returns-in-Some-2-clause-told c =
    let s = c.args.selection.now in
    let names = c.args.names.now in
    let items = c.args.items.now in
    let aliases = c.args.aliases.now in
    let text = c.in-Some-2.text.now in
    let known : unknown_only items s.only ≡ None = ap (unknown_only items) (sym c.as_slice.ensures) ∙ sym c.unknown_only.ensures ∙ ap (option_map shown) c.in_default.is in
    let found : unknown_exclude names items aliases s.exclude ≡ Some text =
    ap (unknown_exclude names items aliases) (sym c.as_slice-exclude.ensures) ∙ sym c.in_ok-text.ensures ∙ ap (option_map shown) c.in-Some-2.is in
    told_if c.in_ok-not_excluded.field-0 (λ told is. inr (text, known, found, is)) c.in_ok-not_excluded.ensures

use Rattle.std.proofs.Common.{◌≡◌, ◌∙◌, ◌++◌, ℕ, List, Option, map, ap}
use Rattle.std.specs.Borrow.{Bor}
use Rattle.std.specs.BTreeMap.{get_by_text}
use Rattle.prepare.specs.declared.file_items.FileAlias.{FileAlias}
use Rattle.prepare.specs.declared.file_items.FileItem.{FileItem}
use Rattle.texts.specs.Names.{place_in}
use Rattle.selecting.specs.Elsewhere.{names_in, names_after, first_elsewhere}
use Rattle.selecting.specs.Standing.{item_names, alias_names}
use Rattle.selecting.proofs.elsewhere.Elsewhere.new.Goals as goal

abbrev shown : List (Bor FileItem) → List FileItem
shown items = map (λ i. i.now) items

abbrev shown_aliases : List (Bor FileAlias) → List FileAlias
shown_aliases aliases = map (λ a. a.now) aliases

abbrev of_all : List FileItem → List FileAlias → List ℕ → Option ℕ
of_all items aliases = λ name. place_in name (item_names items ++ alias_names aliases)

abbrev of_files : List FileItem → List FileAlias → List ℕ → Option ℕ
of_files items aliases = λ name. place_in name (names_in items aliases)

abbrev of_rest : List FileItem → (needed aliases : List FileAlias) → List ℕ → Option ℕ
of_rest chosen needed aliases = λ name. place_in name (names_after chosen needed aliases)

pub returns : goal.returns
returns c =
    let chosen = shown c.args.selected.now.items in
    let needed = shown_aliases c.args.selected.now.aliases in
    let items = c.args.items.now in
    let aliases = c.args.aliases.now in
    let items_are = ap shown c.as_slice-items.ensures ∙ c.in_ok-all.ensures in
    let aliases_are = ap shown_aliases c.as_slice-aliases.ensures ∙ c.in_ok-given.ensures in
    let selected : get_by_text c.in_ok-selected.selected ≡ of_all chosen needed =
    c.in_ok-selected.ensures
    ∙ ap (λ (v : List (Bor FileItem)). of_all (shown v) (shown_aliases c.as_slice-needed.result.now)) c.as_slice-chosen.ensures
    ∙ ap (λ (v : List (Bor FileAlias)). of_all chosen (shown_aliases v)) c.as_slice-needed.ensures in
    let before : get_by_text c.in_ok-before.before ≡ of_files items aliases =
    c.in_ok-before.ensures
    ∙ ap (λ (v : List FileItem). of_files v (shown_aliases c.as_slice-aliases.result.now)) items_are
    ∙ ap (λ (v : List FileAlias). of_files items v) aliases_are in
    let after : get_by_text c.in_ok-after.after ≡ of_rest chosen needed aliases =
    c.in_ok-after.ensures
    ∙ ap (λ (v : List (Bor FileItem)). of_rest (shown v) (shown_aliases c.as_slice-needed.result.now) (shown_aliases c.as_slice-aliases.result.now)) c.as_slice-chosen.ensures
    ∙ ap (λ (v : List (Bor FileAlias)). of_rest chosen (shown_aliases v) (shown_aliases c.as_slice-aliases.result.now)) c.as_slice-needed.ensures
    ∙ ap (λ (v : List FileAlias). of_rest chosen needed v) aliases_are in
    ap (λ (f : List ℕ → Option ℕ). first_elsewhere f (get_by_text c.in_ok-before.before) (get_by_text c.in_ok-after.after)) selected
    ∙ ap (λ (f : List ℕ → Option ℕ). first_elsewhere (of_all chosen needed) f (get_by_text c.in_ok-after.after)) before
    ∙ ap (λ (f : List ℕ → Option ℕ). first_elsewhere (of_all chosen needed) (of_files items aliases) f) after

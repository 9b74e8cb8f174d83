use Rattle.std.proofs.Common.{◌≡◌, ◌∙◌, ℕ, List, Option, map, ap, subst, IfOk}
use Rattle.std.specs.Borrow.{Bor}
use Rattle.std.specs.BTreeMap.{get_by_text}
use Rattle.prepare.specs.declared.file_items.FileAlias.{FileAlias}
use Rattle.prepare.specs.declared.file_items.FileItem.{FileItem}
use Rattle.texts.specs.Names.{place_in}
use Rattle.selecting.specs.Deriving.{deriving_names, items_staying}
use Rattle.selecting.specs.Imports.{type_names, aliases_among}
use Rattle.selecting.specs.Selected.{AreChosen}
use Rattle.selecting.specs.Standing.{items_left, aliases_left, own_names, items_counting, aliases_counting}
use Rattle.selecting.specs.declared.selected.Selected.{Selected}
use Rattle.selecting.proofs.selected.select_in.Goals as goal

abbrev shown : List (Bor FileItem) → List FileItem
shown items = map (λ i. i.now) items

abbrev shown_aliases : List (Bor FileAlias) → List FileAlias
shown_aliases aliases = map (λ a. a.now) aliases

pub returns : goal.returns
returns c =
    let s = c.args.selection.now in
    let names = c.args.names.now in
    let items_in = items_left s names c.args.items.now in
    let aliases_in = aliases_left s names c.args.aliases.now in
    let own : c.in_ok-own.own ≡ own_names s items_in aliases_in =
    c.in_ok-own.ensures
    ∙ ap (λ (v : List (Bor FileItem)). own_names s (shown v) (shown_aliases c.as_slice-2.result.now)) c.as_slice.ensures
    ∙ ap (λ (v : List (Bor FileAlias)). own_names s (shown c.in_ok-items.items) (shown_aliases v)) c.as_slice-2.ensures
    ∙ ap (λ (v : List FileItem). own_names s v (shown_aliases c.in_ok-aliases.aliases)) c.in_ok-items.ensures
    ∙ ap (own_names s items_in) c.in_ok-aliases.ensures in
    let found : get_by_text c.in_ok-own-2.own ≡ (λ name. place_in name (own_names s items_in aliases_in)) =
    λ i name. (c.in_ok-own-2.ensures name ∙ ap (place_in name) (c.as_slice-3.ensures ∙ own)) i in
    let of_own : List ℕ → Option ℕ = λ name. place_in name (own_names s items_in aliases_in) in
    let items_with = items_counting of_own s items_in in
    let of_traits : List ℕ → Option ℕ = λ name. place_in name (deriving_names items_with) in
    let items_by = items_staying of_traits s items_with in
    let aliases_by = aliases_counting of_own s aliases_in in
    let with_are : shown c.in_ok-items-2.items ≡ items_with =
    c.in_ok-items-2.ensures
    ∙ ap (λ (v : List (Bor FileItem)). items_counting (get_by_text c.in_ok-own-2.own) s (shown v)) c.as_slice-4.ensures
    ∙ ap (items_counting (get_by_text c.in_ok-own-2.own) s) c.in_ok-items.ensures
    ∙ ap (λ (f : List ℕ → Option ℕ). items_counting f s items_in) found in
    let names_are : c.in_ok-with_traits.with_traits ≡ deriving_names items_with =
    c.in_ok-with_traits.ensures ∙ ap (λ (v : List (Bor FileItem)). deriving_names (shown v)) c.as_slice-5.ensures ∙ ap deriving_names with_are in
    let derived : get_by_text c.in_ok-with_traits-2.with_traits ≡ (λ name. place_in name (deriving_names items_with)) =
    λ i name. (c.in_ok-with_traits-2.ensures name ∙ ap (place_in name) (c.as_slice-6.ensures ∙ names_are)) i in
    let items_are : shown c.in_ok-items-3.items ≡ items_by =
    c.in_ok-items-3.ensures
    ∙ ap (λ (v : List (Bor FileItem)). items_staying (get_by_text c.in_ok-with_traits-2.with_traits) s (shown v)) c.as_slice-7.ensures
    ∙ ap (items_staying (get_by_text c.in_ok-with_traits-2.with_traits) s) with_are
    ∙ ap (λ (f : List ℕ → Option ℕ). items_staying f s items_with) derived in
    let aliases_are : shown_aliases c.in_ok-aliases-2.aliases ≡ aliases_by =
    c.in_ok-aliases-2.ensures
    ∙ ap (λ (v : List (Bor FileAlias)). aliases_counting (get_by_text c.in_ok-own-2.own) s (shown_aliases v)) c.as_slice-8.ensures
    ∙ ap (aliases_counting (get_by_text c.in_ok-own-2.own) s) c.in_ok-aliases.ensures
    ∙ ap (λ (f : List ℕ → Option ℕ). aliases_counting f s aliases_in) found in
    let declared : c.in_ok-declared.declared ≡ type_names items_by aliases_by =
    c.in_ok-declared.ensures
    ∙ ap (λ (v : List (Bor FileItem)). type_names (shown v) (shown_aliases c.as_slice-10.result.now)) c.as_slice-9.ensures
    ∙ ap (λ (v : List (Bor FileAlias)). type_names (shown c.in_ok-items-3.items) (shown_aliases v)) c.as_slice-10.ensures
    ∙ ap (λ (v : List FileItem). type_names v (shown_aliases c.in_ok-aliases-2.aliases)) items_are
    ∙ ap (type_names items_by) aliases_are in
    let known : get_by_text c.in_ok-declared-2.declared ≡ (λ name. place_in name (type_names items_by aliases_by)) =
    λ i name. (c.in_ok-declared-2.ensures name ∙ ap (place_in name) (c.as_slice-11.ensures ∙ declared)) i in
    let kept : shown c.as_slice-13.result.now ≡ items_by = ap shown c.as_slice-13.ensures ∙ items_are in
    let left : shown_aliases c.as_slice-14.result.now ≡ aliases_among (λ name. place_in name (type_names items_by aliases_by)) aliases_by =
    ap shown_aliases c.as_slice-14.ensures
    ∙ c.in_ok-aliases-3.ensures
    ∙ ap (λ (v : List (Bor FileAlias)). aliases_among (get_by_text c.in_ok-declared-2.declared) (shown_aliases v)) c.as_slice-12.ensures
    ∙ ap (aliases_among (get_by_text c.in_ok-declared-2.declared)) aliases_are
    ∙ ap (λ (f : List ℕ → Option ℕ). aliases_among f aliases_by) known in
    subst (λ (v : List FileItem). IfOk c.choose.result (λ (chosen : Selected). AreChosen s c.args.config.now v (shown chosen.items) (aliases_among (λ name. place_in name (type_names items_by aliases_by)) aliases_by) (shown_aliases chosen.aliases))) kept
    (subst (λ (v : List FileAlias). IfOk c.choose.result (λ (chosen : Selected). AreChosen s c.args.config.now (shown c.as_slice-13.result.now) (shown chosen.items) v (shown_aliases chosen.aliases))) left c.choose.ensures)

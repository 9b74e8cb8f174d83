use Rattle.std.proofs.Common.{◌≡◌, ◌∙◌, ◌<◌, ◌+◌, ◌++◌, ℕ, suc, List, [], length, map, option_map, Some, refl, ap, ap₂, sym, subst, append-nil, append_assoc, arith}
use Rattle.std.specs.Prelude.{slice_get}
use Rattle.std.specs.Borrow.{Bor}
use Rattle.std.proofs.lemmas.Option.{slice_get-map, slice_get_read}
use Rattle.std.proofs.lemmas.List.{length-map}
use Rattle.syntax.specs.declared.item.Declaration.{Declaration}
use Rattle.syntax.specs.Items.{declaration_view, declarations_view}
use Rattle.prepare.specs.declared.file_items.FileItem.{FileItem}
use Rattle.telling.specs.declared.told.Told.{Told}
use Rattle.warnings.specs.Rules.{WarningItem, warning_view}
use Rattle.file_derivation.specs.Warned.{AreWarned, none_yet, one_more, told_warning, told_warnings, AreFirst}
use Rattle.file_derivation.proofs.warned.warnings_from.Goals as goal

next : (n : ℕ) → suc n ≡ n + 1
next n = omega arith

pub loop-at-init : goal.loop-at-init
loop-at-init c = λ front first. ([], none_yet, subst (λ (v : List Told). AreFirst v c.args.warnings) (sym (append-nil front)) first)

pub loop-at-preserved : goal.loop-at-preserved
loop-at-preserved c = λ front given.
    let names = c.args.names.now in
    let config = c.args.lookup.now.config.now in
    let ds = declarations_view c.args.lookup.now.places.now.declarations.now in
    let read = c.args.from.now in
    let from = map (λ (v : Bor FileItem). v.now) read in
    let at = c.loop-at.at in
    let i = c.index-from-at.result.now in
    let less : at < length read = c.loop-at-test.true in
    let placed : slice_get from at ≡ Some i =
    slice_get-map (λ (v : Bor FileItem). v.now) read at ∙ ap (option_map (λ (v : Bor FileItem). v.now)) (slice_get_read read (length read) at c.index-from-at.result refl less c.index-from-at.is) in
    let said = c.in_ok-own.ensures in
    let before = c.loop-at.invariant front given in
    let told = told_warnings config names ds i said.0 in
    let own : map (told_warning c.file_name-name.result.now i) (map warning_view c.as_slice.result.now) ≡ told =
    ap₂ (λ (name : List ℕ) (ws : List WarningItem). map (told_warning name i) ws) c.file_name-name.ensures (ap (map warning_view) c.as_slice.ensures ∙ said.2) in
    let first = subst (λ (ts : List Told). AreFirst ((front ++ before.0) ++ ts) c.add_all.new.self) own (c.in_ok-add_all.ensures (front ++ before.0) before.2) in
    let warned = subst (λ n. AreWarned config names ds from n (before.0 ++ told)) (next at) (one_more before.1 said.1 placed) in
    (before.0 ++ told, warned, subst (λ (v : List Told). AreFirst v c.add_all.new.self) (append_assoc front before.0 told) first)

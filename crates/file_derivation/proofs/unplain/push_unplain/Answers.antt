use Rattle.std.proofs.Common.{◌≡◌, ◌∙◌, ◌<◌, ◌+◌, ◌++◌, List, [], ◌∷◌, length, map, take, option_map, Some, refl, ap, sym, subst, append-nil, append_assoc}
use Rattle.std.specs.Prelude.{slice_get}
use Rattle.std.specs.Borrow.{Bor}
use Rattle.std.proofs.lemmas.List.{length-map, take_more}
use Rattle.std.proofs.lemmas.Option.{slice_get-map, slice_get_read}
use Rattle.syntax.specs.declared.item.Declaration.{Declaration}
use Rattle.syntax.specs.Items.{declaration_view, declarations_view}
use Rattle.telling.specs.declared.told.Told.{Told}
use Rattle.prepare.specs.declared.file_items.FileItem.{FileItem}
use Rattle.plainness.specs.declared.unplain.Unplain.{Unplain}
use Rattle.file_derivation.specs.Unplain.{told_unplain, AreUnplainTold, none_told}
use Rattle.file_derivation.specs.Warned.{AreFirst}
use Rattle.file_derivation.proofs.ToldUnplain.{told-more, declared-at}
use Rattle.file_derivation.proofs.unplain.push_unplain.Goals as goal

pub loop-at-init : goal.loop-at-init
loop-at-init c = λ front first. ([], none_told, subst (λ (v : List Told). AreFirst v c.args.warnings.now) (sym (append-nil front)) first)

pub loop-at-preserved : goal.loop-at-preserved
loop-at-preserved c = λ front given.
    let names = c.args.names.now in
    let items = c.args.declarations.now.items in
    let ds = declarations_view c.args.declarations.now in
    let read = c.args.from.now in
    let from = map (λ (v : Bor FileItem). v.now) read in
    let us = c.args.unplain.now in
    let at = c.loop-at.at in
    let u = c.index-unplain-at.result in
    let i = c.index-from-place.result.now in
    let d = declaration_view c.index-declared-place.result in
    let l : at < length us = c.loop-at-test.true in
    let there : u.declaration < length ds = subst (λ (v : Unplain). v.declaration < length ds) (sym c.index-unplain-at.is) (declared-at (length ds) us at u c.requires.declared l) in
    let less : u.declaration < length read = subst (λ n. u.declaration < n) (sym c.requires.many) there in
    let placed : slice_get from u.declaration ≡ Some i =
    slice_get-map (λ (v : Bor FileItem). v.now) read u.declaration ∙ ap (option_map (λ (v : Bor FileItem). v.now)) (slice_get_read read (length read) u.declaration c.index-from-place.result refl less c.index-from-place.is) in
    let within : u.declaration < length items = subst (λ n. u.declaration < n) (length-map items declaration_view) there in
    let within_slice : u.declaration < length c.as_slice-declared.result.now = subst (λ (v : List Declaration). u.declaration < length v) (sym c.as_slice-declared.ensures) within in
    let declared : slice_get items u.declaration ≡ Some c.index-declared-place.result =
    subst (λ (v : List Declaration). slice_get v u.declaration ≡ Some c.index-declared-place.result) c.as_slice-declared.ensures (slice_get_read c.as_slice-declared.result.now (length c.as_slice-declared.result.now) u.declaration c.index-declared-place.result refl within_slice c.index-declared-place.is) in
    let found : slice_get ds u.declaration ≡ Some d = slice_get-map declaration_view items u.declaration ∙ ap (option_map declaration_view) declared in
    let before = c.loop-at.invariant front given in
    let told = told_unplain names d i u in
    let first = c.in_ok-push.ensures (front ++ before.0) told before.2 c.in_ok-told.ensures in
    let more = told-more names ds from (take at us) before.0 u d i before.1 found placed in
    let next : take at us ++ u ∷ [] ≡ take (at + 1) us = ap (λ (v : Unplain). take at us ++ v ∷ []) c.index-unplain-at.is ∙ sym (take_more us at u l) in (
      before.0 ++ told ∷ [],
      subst (λ (v : List Unplain). AreUnplainTold names ds from v (before.0 ++ told ∷ [])) next more,
      subst (λ (v : List Told). AreFirst v c.push.new.self) (append_assoc front before.0 (told ∷ [])) first,
    )

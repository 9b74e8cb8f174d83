use Rattle.std.proofs.Common.{◌≡◌, ◌∙◌, ◌<◌, ◌+◌, ◌++◌, ℕ, List, [], ◌∷◌, Option, length, map, take, min, option_map, Some, refl, ap, ap₂, sym, subst, append-nil, append_assoc}
use Rattle.std.specs.Prelude.{slice_get}
use Rattle.std.specs.Borrow.{Bor}
use Rattle.std.proofs.lemmas.Option.{slice_get-map, slice_get_read, get_or_from_slice_get}
use Rattle.std.proofs.lemmas.List.{length-map, length-take, take_more}
use Rattle.syntax.specs.declared.item.Declaration.{Declaration}
use Rattle.syntax.specs.Items.{DeclaredItem, declaration_view, declarations_view}
use Rattle.prepare.specs.declared.file_items.FileItem.{FileItem}
use Rattle.telling.specs.declared.told.Told.{Told}
use Rattle.selecting.specs.Elsewhere.{found_by}
use Rattle.file_derivation.specs.Elsewhere.{told_elsewhere, told_all_elsewhere}
use Rattle.file_derivation.specs.Warned.{AreFirst}
use Rattle.file_derivation.proofs.ToldElsewhere.{told-one-more}
use Rattle.file_derivation.proofs.elsewhere.with_elsewhere.Goals as goal

pub loop-at-init : goal.loop-at-init
loop-at-init c = λ front first. subst (λ (v : List Told). AreFirst v c.args.warnings) (sym (append-nil front)) first

-- one more of a list, which stands at the place
taken : {X : Type 0} (xs : List X) (at : ℕ) (x : X) → at < length xs → slice_get xs at ≡ Some x → take (at + 1) xs ≡ take at xs ++ x ∷ []
taken xs at x less found = take_more xs at x less ∙ ap (λ v. take at xs ++ v ∷ []) (get_or_from_slice_get xs at x x found)

pub loop-at-preserved : goal.loop-at-preserved
loop-at-preserved c = λ front given.
    let names = c.args.names.now in
    let items = c.args.declarations.now.items in
    let ds = declarations_view c.args.declarations.now in
    let read = c.args.from.now in
    let from = map (λ (v : Bor FileItem). v.now) read in
    let elsewhere = found_by c.args.elsewhere.now in
    let at = c.loop-at.at in
    let i = c.index-from-at.result.now in
    let d = declaration_view c.index-declared-at.result in
    let less : at < length read = c.loop-at-test.true in
    let placed : slice_get from at ≡ Some i =
    slice_get-map (λ (v : Bor FileItem). v.now) read at ∙ ap (option_map (λ (v : Bor FileItem). v.now)) (slice_get_read read (length read) at c.index-from-at.result refl less c.index-from-at.is) in
    let there : at < length ds = subst (λ n. at < n) c.requires.many less in
    let within : at < length items = subst (λ n. at < n) (length-map items declaration_view) there in
    let within_slice : at < length c.as_slice-declared.result.now = subst (λ (v : List Declaration). at < length v) (sym c.as_slice-declared.ensures) within in
    let declared : slice_get items at ≡ Some c.index-declared-at.result =
    subst (λ (v : List Declaration). slice_get v at ≡ Some c.index-declared-at.result) c.as_slice-declared.ensures (slice_get_read c.as_slice-declared.result.now (length c.as_slice-declared.result.now) at c.index-declared-at.result refl within_slice c.index-declared-at.is) in
    let found : slice_get ds at ≡ Some d = slice_get-map declaration_view items at ∙ ap (option_map declaration_view) declared in
    let from_there : at < length from = subst (λ n. at < n) (sym (length-map read (λ (v : Bor FileItem). v.now))) less in
    let before = told_all_elsewhere names elsewhere (take at ds) (take at from) in
    let name : option_map (λ n. n.now) c.in_ok-name.name ≡ elsewhere i = c.in_ok-name.ensures in
    let told = told_elsewhere names d i (elsewhere i) in
    let first = subst (λ (v : Option (List ℕ)). AreFirst ((front ++ before) ++ told_elsewhere names d i v) c.add_elsewhere.new.warnings) name (c.in_ok-add_elsewhere.ensures (front ++ before) (c.loop-at.invariant front given)) in
    let alike : length (take at ds) ≡ length (take at from) = length-take at ds ∙ ap (λ n. min at n) (sym c.requires.many ∙ sym (length-map read (λ (v : Bor FileItem). v.now))) ∙ sym (length-take at from) in
    let more : before ++ told ≡ told_all_elsewhere names elsewhere (take (at + 1) ds) (take (at + 1) from) =
    sym (told-one-more names elsewhere (take at ds) (take at from) d i alike)
    ∙ ap₂ (λ (x : List DeclaredItem) (y : List FileItem). told_all_elsewhere names elsewhere x y) (sym (taken ds at d there found)) (sym (taken from at i from_there placed)) in
    subst (λ (v : List Told). AreFirst v c.add_elsewhere.new.warnings) (append_assoc front before told ∙ ap (λ (v : List Told). front ++ v) more) first

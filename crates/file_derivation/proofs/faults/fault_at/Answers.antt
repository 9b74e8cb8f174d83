use Rattle.std.proofs.Common.{◌≡◌, ◌∙◌, ◌<◌, List, length, map, option_map, Some, refl, ap, sym, subst}
use Rattle.std.specs.Prelude.{slice_get}
use Rattle.std.specs.Borrow.{Bor}
use Rattle.std.proofs.lemmas.Option.{slice_get-map, slice_get_read}
use Rattle.std.proofs.lemmas.List.{length-map}
use Rattle.derive_decl.specs.Faults.{IsFaultyAt}
use Rattle.syntax.specs.declared.item.Declaration.{Declaration}
use Rattle.syntax.specs.Items.{declaration_view}
use Rattle.prepare.specs.declared.file_items.FileItem.{FileItem}
use Rattle.file_derivation.specs.Helps.{declared_around, origin_around, told_fault}
use Rattle.file_derivation.proofs.Stages.{refused_so}
use Rattle.file_derivation.proofs.faults.fault_at.Goals as goal

pub returns-in_ok-told-in-Err-Refused : goal.returns-in_ok-told-in-Err-Refused
returns-in_ok-told-in-Err-Refused c =
    let around = c.args.around.now in
    let at = c.args.at in
    let items = around.places.now.declarations.now.items in
    let d = c.in-Err-Refused.refusal in
    let within : at < length items = subst (λ n. at < n) (length-map items declaration_view) c.requires.within in
    let many : at < length around.from.now = subst (λ n. at < n) (sym c.requires.many) c.requires.within in
    let within_slice : at < length c.as_slice.result.now = subst (λ (v : List Declaration). at < length v) (sym c.as_slice.ensures) within in
    let declared : slice_get items at ≡ Some c.index-as_slice-at.result = subst (λ (v : List Declaration). slice_get v at ≡ Some c.index-as_slice-at.result) c.as_slice.ensures (slice_get_read c.as_slice.result.now (length c.as_slice.result.now) at c.index-as_slice-at.result refl within_slice c.index-as_slice-at.is) in
    let found : slice_get (declared_around around) at ≡ Some (declaration_view c.index-as_slice-at.result) = slice_get-map declaration_view items at ∙ ap (option_map declaration_view) declared in
    let from : slice_get (map (λ (v : Bor FileItem). v.now) around.from.now) at ≡ Some c.index-around-at.result.now =
    slice_get-map (λ (v : Bor FileItem). v.now) around.from.now at ∙ ap (option_map (λ (v : Bor FileItem). v.now)) (slice_get_read around.from.now (length around.from.now) at c.index-around-at.result refl many c.index-around-at.is) in
    let fault = refused_so (IsFaultyAt c.args.config.now (declared_around around) at) c.in-Err-Refused.field-0 _ d c.in-Err-Refused.field-0-is c.in-Err-Refused.refusal-is c.in-Err-Refused.ensures.refused in
    let told = c.in_ok-told-in-Err-Refused.ensures ∙ sym (ap (λ (v : Bor FileItem). told_fault (origin_around around) (declared_around around) at (declaration_view c.index-as_slice-at.result) v.now d) c.index-around-at.is) in
    (declaration_view c.index-as_slice-at.result, c.index-around-at.result.now, d, found, from, fault, told)

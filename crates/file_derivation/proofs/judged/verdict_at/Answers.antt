use Rattle.std.proofs.Common.{◌≡◌, ◌∙◌, ◌<◌, List, length, option_map, Some, refl, ap, sym, subst}
use Rattle.std.specs.Prelude.{slice_get}
use Rattle.std.proofs.lemmas.Option.{slice_get-map, slice_get_read}
use Rattle.std.proofs.lemmas.List.{length-map}
use Rattle.syntax.specs.declared.item.Declaration.{Declaration}
use Rattle.syntax.specs.Items.{declaration_view}
use Rattle.file_derivation.specs.Faults.{IsFaultAt}
use Rattle.file_derivation.specs.Helps.{declared_around, origin_around}
use Rattle.file_derivation.proofs.judged.verdict_at.Goals as goal

pub returns-in-Some : goal.returns-in-Some
returns-in-Some c =
    let around = c.args.around.now in
    let fault = subst (IsFaultAt c.args.config.now (declared_around around) (origin_around around) c.args.at) c.in-Some.is c.in_ok-told.ensures in
    (fault.0, fault.3, fault)

pub returns-in-None : goal.returns-in-None
returns-in-None c =
    let around = c.args.around.now in
    let at = c.args.at in
    let items = around.places.now.declarations.now.items in
    let within : at < length items = subst (λ n. at < n) (length-map items declaration_view) c.requires.within in
    let within_slice : at < length c.as_slice.result.now = subst (λ (v : List Declaration). at < length v) (sym c.as_slice.ensures) within in
    let declared : slice_get items at ≡ Some c.index-as_slice-at.result = subst (λ (v : List Declaration). slice_get v at ≡ Some c.index-as_slice-at.result) c.as_slice.ensures (slice_get_read c.as_slice.result.now (length c.as_slice.result.now) at c.index-as_slice-at.result refl within_slice c.index-as_slice-at.is) in
    let found : slice_get (declared_around around) at ≡ Some (declaration_view c.index-as_slice-at.result) = slice_get-map declaration_view items at ∙ ap (option_map declaration_view) declared in
    let sound = subst (IsFaultAt c.args.config.now (declared_around around) (origin_around around) at) c.in-None.is c.in_ok-told.ensures in
    (declaration_view c.index-as_slice-at.result, found, (sound, refl))

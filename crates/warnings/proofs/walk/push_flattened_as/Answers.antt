use Rattle.std.proofs.Common.{◌≡◌, ◌++◌, ◌∙◌, List, [], Option, Some, map, option_map, ap, ap₂, sym, append_assoc}
use Rattle.std.proofs.lemmas.Result.{on_ok_weaker}
use Rattle.std.specs.Option.{option_map_or}
use Rattle.attributes.specs.Attributes.{attribute_view}
use Rattle.attributes.specs.declared.attribute.Attribute.{Attribute}
use Rattle.syntax.specs.Items.{field_view}
use Rattle.open_types.specs.declared.open_type.OpenType.{OpenType}
use Rattle.open_types.specs.Open.{open_view}
use Rattle.warnings.specs.declared.flat.Flat.{Flat}
use Rattle.warnings.specs.declared.rules.Place.{Place}
use Rattle.warnings.specs.Rules.{WarningItem, warning_view}
use Rattle.warnings.specs.Before.{warnings_before}
use Rattle.warnings.specs.Flat.{flat_view}
use Rattle.warnings.specs.Flattened.{warnings_of_flattened_type}
use Rattle.warnings.specs.Warned.{inside_view, flattened_place}
use Rattle.warnings.proofs.walk.push_flattened_as.Goals as goal

pub returns-in-Some : goal.returns-in-Some
returns-in-Some c =
    let inside = inside_view c.args.inside.now in
    let around = c.args.around in
    let field = field_view c.args.field.now in
    let of = option_map open_view c.args.of.now in
    let before = map warning_view c.args.warnings.now in
    let items = warnings_before (flattened_place inside.flats around.denied of) field.attrs in
    let said : Option OpenType → List WarningItem = λ o. option_map_or (warnings_of_flattened_type inside.flats inside.declarations around.several field.ty) (option_map open_view o) [] in
    let place = c.flattened_place-place.ensures ∙ ap (λ (flats : List Flat). flattened_place (map flat_view flats) around.denied of) c.as_slice.ensures in
    let first : map warning_view c.push_attributes.new.warnings ≡ before ++ items =
    c.in_ok-push_attributes.ensures ∙ ap₂ (λ (p : Place) (attributes : List Attribute). before ++ warnings_before p (map attribute_view attributes)) place c.as_slice-2.ensures in
    on_ok_weaker c.push_flattened_type.result
    (λ is. is ∙ ap (λ zs. zs ++ said (Some c.in-Some.of)) first ∙ append_assoc before items (said (Some c.in-Some.of)) ∙ ap (λ o. before ++ (items ++ said o)) (sym c.in-Some.is))
    c.push_flattened_type.ensures

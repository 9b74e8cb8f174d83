use Rattle.std.proofs.Common.{◌≡◌, ◌∙◌, List, ◌∷◌, Option, map, ap, refl}
use Rattle.std.specs.Option.{option_or}
use Rattle.derive_decl.specs.declared.feature.Other.{Other}
use Rattle.std.specs.List.{flat_map}
use Rattle.attributes.specs.declared.attribute.Attribute.{Attribute}
use Rattle.attributes.specs.Attributes.{AttributeItem, attribute_view}
use Rattle.syntax.specs.declared.item.Field.{Field}
use Rattle.syntax.specs.Items.{FieldItem, field_view}
use Rattle.derive_decl.specs.Attributed.{first_other}
use Rattle.derive_decl.proofs.First.{first-parts, first_here, first_later}
use Rattle.derive_decl.proofs.attributed.first_on_fields.Goals as goal

abbrev parts : List Field → List AttributeItem
parts fields = flat_map (λ (f : FieldItem). f.attrs) (map field_view fields)

abbrev part : Field → List AttributeItem
part field = map attribute_view field.attrs

abbrev first : List Field → Option Other
first fields = first_other (parts fields)

abbrev one : Field → Option Other
one field = first_other (part field)

split : (x : Field) (xs : List Field) → first (x ∷ xs) ≡ option_or (one x) (first xs)
split = first-parts parts part (λ x xs. refl)

pub returns-in-Some : goal.returns-in-Some
returns-in-Some c =
    first_here first one split c.args.fields.now c.loop-field.field-index c.field-item.result c.first_other.result c.in-Some.other c.loop-field-test.true c.field-item.is
    (c.first_other.ensures ∙ ap (λ (xs : List Attribute). first_other (map attribute_view xs)) c.as_slice.ensures) c.in-Some.is c.loop-field.invariant

pub loop-field-preserved : goal.loop-field-preserved
loop-field-preserved c =
    first_later first one split c.args.fields.now c.loop-field.field-index c.field-item.result c.first_other.result c.loop-field-test.true c.field-item.is
    (c.first_other.ensures ∙ ap (λ (xs : List Attribute). first_other (map attribute_view xs)) c.as_slice.ensures) c.in_default.is c.loop-field.invariant

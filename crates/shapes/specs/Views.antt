-- What the program's declarations are.
use Rattle.std.specs.Prelude.{Bool, Option, None, Some, map, option_map, box_value, Box}
use Rattle.std.specs.Global.{Global}
use Rattle.open_types.specs.Open.{open_view}
use Rattle.shapes.specs.Declarations.{MemberOf, FlattenedOf, FlattenedMapOf, BesideOf, alone, FormOf, named_fields, unnamed_fields, no_fields, VariantOf, BodyOf, fields, units, numbers, variants, DeclarationOf}
use Rattle.shapes.specs.declared.declaration.Member.{Member}
use Rattle.shapes.specs.declared.declaration.Flattened.{Flattened}
use Rattle.shapes.specs.declared.declaration.FlattenedMap.{FlattenedMap}
use Rattle.shapes.specs.declared.declaration.Beside.{Beside}
use Rattle.shapes.specs.declared.declaration.Form.{Form}
use Rattle.shapes.specs.declared.declaration.Form.TheVariants as forms
use Rattle.shapes.specs.declared.declaration.Variant.{Variant}
use Rattle.shapes.specs.declared.declaration.Body.{Body}
use Rattle.shapes.specs.declared.declaration.Body.TheVariants as bodies
use Rattle.shapes.specs.declared.declaration.Declaration.{Declaration}

abbrev pub member_view : Member → MemberOf
member_view m = record { name = m.name; required = m.required; annotations = m.annotations; of = open_view m.ty }

abbrev pub flattened_view : Flattened → FlattenedOf
flattened_view f = record { name = f.name; annotations = f.annotations; of = open_view f.ty }

abbrev pub flattened_map_view : FlattenedMap → FlattenedMapOf
flattened_map_view m = record { name = m.name; annotations = m.annotations; key = open_view m.key; value = open_view m.value }

-- what is flattened stands in a box, where something is
abbrev pub beside_view : Bool → Option (Box Beside Global) → BesideOf
beside_view denies None = alone denies
beside_view denies (Some b) = record { denies = denies; flattened = map flattened_view (box_value b).flattened; map = option_map flattened_map_view (box_value b).map }

abbrev pub form_view : Form → FormOf
form_view (forms.Named denies b ms) = named_fields (beside_view denies b) (map member_view ms)
form_view (forms.Unnamed ts) = unnamed_fields (map open_view ts)
form_view forms.Unit = no_fields

abbrev pub variant_view : Variant → VariantOf
variant_view x = record { name = x.name; annotations = x.annotations; form = form_view x.form }

abbrev pub body_view : Body → BodyOf
body_view (bodies.Fields form) = fields (form_view form)
body_view (bodies.Units tagging names) = units tagging names
body_view (bodies.Numbers tagging ns) = numbers tagging ns
body_view (bodies.Variants tagging xs) = variants tagging (map variant_view xs)

abbrev pub declaration_view : Declaration → DeclarationOf
declaration_view d = record { name = d.name; parameters = d.parameters; annotations = d.annotations; body = body_view d.body }

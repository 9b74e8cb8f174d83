-- What the schema of a body is made of, and why there may be none.
use Rattle.std.specs.Prelude.{◌≡◌, List, Option, Some, map}
use Rattle.diag.specs.declared.error.DeriveError.{DeriveError}
use Rattle.syntax.specs.declared.item.Variant.{Variant}
use Rattle.syntax.specs.Items.{FieldItems, struct_body, enum_body, variant_view}
use Rattle.shapes.specs.Declarations.{BodyOf}
use Rattle.shapes.specs.Views.{body_view}
use Rattle.derive_decl.specs.declared.root.Root.{Root}
use Rattle.derive_decl.specs.Faults.{IsFaultyPlain, IsFaultyEnum}
use Rattle.derive_decl.specs.Resolved.{body_of, plain_body, mixed_body, annotations_of}
use Rattle.derive_decl.specs.Views.{attributes_of, items_of, known}
use Rattle.declaration_schemas.specs.declared.body_schema.BodySchema.{BodySchema}

-- the schema has what a declaration is resolved to, and what the attributes of the root say
abbrev pub IsMadeOf : {Of : Type 0} → Root → Option BodyOf → BodySchema Of → Type 0
IsMadeOf root of s = (s.annotations ≡ annotations_of (attributes_of root)) × (of ≡ Some (body_view s.body))

-- the struct of the root with these fields
abbrev pub struct_of : Root → FieldItems → Option BodyOf
struct_of root fs = body_of (known root.container.now) (items_of root) (struct_body fs)

-- the enum of the root with these variants: by their names where none has fields, by their names, by their fields
abbrev pub enum_of : Root → List Variant → Option BodyOf
enum_of root vs = body_of (known root.container.now) (items_of root) (enum_body (map variant_view vs))

abbrev pub names_of : Root → List Variant → Option BodyOf
names_of root vs = plain_body (known root.container.now) (items_of root) (map variant_view vs)

abbrev pub variants_of : Root → List Variant → Option BodyOf
variants_of root vs = mixed_body (known root.container.now) (items_of root) (map variant_view vs)

-- the error refuses the enum of the root, by the names of its variants, and by these or their fields
abbrev pub AreRefusedNames : Root → List Variant → DeriveError → Type 0
AreRefusedNames root vs e = IsFaultyPlain (known root.container.now) (items_of root) root.ident.now (map variant_view vs) e

abbrev pub IsRefusedEnum : Root → List Variant → DeriveError → Type 0
IsRefusedEnum root vs e = IsFaultyEnum (known root.container.now) (items_of root) root.ident.now (map variant_view vs) e

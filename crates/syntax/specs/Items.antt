-- Fields, variants, generic parameters and declarations, without where they lie in memory (The Rust Reference, "Structs", "Enumerations").
use Rattle.std.specs.Prelude.{List, Option, map, option_map}
use Rattle.texts.specs.declared.span.Span.{Span}
use Rattle.written_types.specs.declared.written.Ident.{Ident}
use Rattle.written_types.specs.Written.{Written, written_view}
use Rattle.words.specs.Words.{Word, words_view}
use Rattle.attributes.specs.Attributes.{AttributeItem, attribute_view}
use Rattle.syntax.specs.declared.item.Field.{Field}
use Rattle.syntax.specs.declared.item.Fields.{Fields}
use Rattle.syntax.specs.declared.item.Fields.TheVariants as forms
use Rattle.syntax.specs.declared.item.Variant.{Variant}
use Rattle.syntax.specs.declared.item.Body.{Body}
use Rattle.syntax.specs.declared.item.Body.TheVariants as bodies
use Rattle.syntax.specs.declared.item.GenericParam.{GenericParam}
use Rattle.syntax.specs.declared.item.GenericParam.TheVariants as params
use Rattle.syntax.specs.declared.item.Generics.{Generics}
use Rattle.syntax.specs.declared.item.Head.{Head}
use Rattle.syntax.specs.declared.item.Declaration.{Declaration}
use Rattle.syntax.specs.declared.item.Declarations.{Declarations}

-- a field with its attributes, its name where it has one, and its type
pub record FieldItem : Type 0 where
  pub attrs : List AttributeItem
  pub ident : Option Ident
  pub ty : Written
  pub span : Span

-- fields with names, fields without, and none
pub data FieldItems : Type 0 where
  named : List FieldItem → FieldItems
  unnamed : List FieldItem → FieldItems
  unit : FieldItems

-- a variant with its attributes, its name, its fields, and the words behind `=` where it has a discriminant
pub record VariantItem : Type 0 where
  pub attrs : List AttributeItem
  pub ident : Ident
  pub fields : FieldItems
  pub discriminant : Option (List Word)
  pub span : Span

-- a lifetime, a type and a constant that a declaration is generic over
pub data ParameterItem : Type 0 where
  lifetime_parameter : Ident → ParameterItem
  type_parameter : Ident → ParameterItem
  const_parameter : Ident → ParameterItem

pub data BodyItem : Type 0 where
  struct_body : FieldItems → BodyItem
  enum_body : List VariantItem → BodyItem

-- a declaration without its attributes and its span: its name, its generics and its body
pub record HeadItem : Type 0 where
  pub ident : Ident
  pub generics : List ParameterItem
  pub body : BodyItem

pub record DeclaredItem : Type 0 where
  pub attrs : List AttributeItem
  pub ident : Ident
  pub generics : List ParameterItem
  pub body : BodyItem
  pub span : Span

-- what the program's values are
abbrev pub field_view : Field → FieldItem
field_view f = record { attrs = map attribute_view f.attrs; ident = f.ident; ty = written_view f.ty; span = f.span }

abbrev pub fields_view : Fields → FieldItems
fields_view (forms.Named fs) = named (map field_view fs)
fields_view (forms.Unnamed fs) = unnamed (map field_view fs)
fields_view forms.Unit = unit

abbrev pub variant_view : Variant → VariantItem
variant_view v = record {
  attrs = map attribute_view v.attrs;
  ident = v.ident;
  fields = fields_view v.fields;
  discriminant = option_map words_view v.discriminant;
  span = v.span;
}

abbrev pub body_view : Body → BodyItem
body_view (bodies.Struct fs) = struct_body (fields_view fs)
body_view (bodies.Enum vs) = enum_body (map variant_view vs)

abbrev pub parameter_view : GenericParam → ParameterItem
parameter_view (params.Lifetime x) = lifetime_parameter x
parameter_view (params.Ty x) = type_parameter x
parameter_view (params.Constant x) = const_parameter x

abbrev pub generics_view : Generics → List ParameterItem
generics_view g = map parameter_view g.params

abbrev pub head_view : Head → HeadItem
head_view h = record { ident = h.ident; generics = generics_view h.generics; body = body_view h.body }

abbrev pub declaration_view : Declaration → DeclaredItem
declaration_view d = record {
  attrs = map attribute_view d.attrs;
  ident = d.ident;
  generics = generics_view d.generics;
  body = body_view d.body;
  span = d.span;
}

abbrev pub declarations_view : Declarations → List DeclaredItem
declarations_view ds = map declaration_view ds.items

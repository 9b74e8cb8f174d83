-- Reading items from left to right, as functions. Types are read by ty, and types and bounds by readers.
use Rattle.std.specs.Prelude.{ℕ, zero, suc, List, [], ◌∷◌, length, Bool, true, false, not, cond, ◌&&◌, Option, Some, None, Result, Ok, Err}
use Rattle.texts.specs.declared.span.Span.{Span}
use Rattle.tokens.specs.declared.token.Bracket.{Bracket}
use Rattle.tokens.specs.declared.token.Bracket.TheVariants.{Round, Square, Curly}
use Rattle.written_types.specs.declared.written.Ident.{Ident}
use Rattle.written_types.specs.Written.{Written}
use Rattle.words.specs.declared.vocabulary.Keyword.TheVariants.{Pub, Struct, Enum, Use}
use Rattle.words.specs.declared.vocabulary.Sign.TheVariants.{Colon, Semicolon, Equals, Hash, Exclamation}
use Rattle.words.specs.Words.{Word, group, words_of}
use Rattle.words.specs.Reading.{Fault, wrong, Read, ◌>>=◌, same_bracket, name_at, keyword_at, sign_at, group_at}
use Rattle.words.specs.Lists.{many_of, list_of}
use Rattle.attributes.specs.Attributes.{AttributeItem}
use Rattle.attributes.specs.AttributeWords.{is_inner_doc}
use Rattle.attributes.specs.AttributeReading.{attributes_at}
use Rattle.syntax.specs.Items.{FieldItem, FieldItems, named, unnamed, unit, VariantItem, ParameterItem, BodyItem, struct_body, enum_body, HeadItem, DeclaredItem}
use Rattle.syntax.specs.GenericReading.{Readers, generics_at, after_where}
use Rattle.words.specs.Visibility.{after_semicolon, is_end, is_restriction}
use Rattle.syntax.specs.ItemWords.{is_comma, before_comma, from_comma, spanning}

-- what follows vis?; behind `pub`, where an unnamed field may end, a group is its type
abbrev pub is_scope : Word → Bool
is_scope (group Round inside s) = is_restriction (words_of inside)
is_scope _ = false

abbrev pub ends_item : List Word → Bool
ends_item [] = true
ends_item (w ∷ ws) = is_comma w

abbrev pub after_scope : Bool → List Word → List Word
after_scope in_tuple [] = []
after_scope in_tuple (w ∷ ws) = cond (is_scope w && not (in_tuple && ends_item ws)) ws (w ∷ ws)

abbrev pub after_pub : Bool → List Word → Read Span → List Word
after_pub in_tuple ws (Ok p) = after_scope in_tuple p.1
after_pub in_tuple ws (Err e) = ws

unfoldable pub after_visibility : Bool → List Word → List Word
after_visibility in_tuple ws = after_pub in_tuple ws (keyword_at Pub ws)

abbrev pub field_of : List AttributeItem → Option Ident → List Word → Written × List Word → FieldItem × List Word
field_of attrs x start t = (record { attrs = attrs; ident = x; ty = t.0; span = spanning start t.1 }, t.1)

unfoldable pub named_field_at : (List Word → Read Written) → List Word → Read FieldItem
named_field_at ty ws = attributes_at ws >>= λ d. name_at (after_visibility false d.1) >>= λ x. sign_at Colon x.1 >>= λ c. ty c.1 >>= λ t. Ok (field_of d.0 (Some x.0) d.1 t)

unfoldable pub unnamed_field_at : (List Word → Read Written) → List Word → Read FieldItem
unnamed_field_at ty ws = attributes_at ws >>= λ d. ty (after_visibility true d.1) >>= λ t. Ok (field_of d.0 None d.1 t)

-- the fields of a struct or of a variant
abbrev pub fields_in : (List Word → Read Written) → Bracket → List Word → List Word → Read FieldItems
fields_in ty Curly inside ws = list_of (named_field_at ty) inside >>= λ fs. Ok (named fs, ws)
fields_in ty Round inside ws = list_of (unnamed_field_at ty) inside >>= λ fs. Ok (unnamed fs, ws)
fields_in ty Square inside ws = Err wrong

unfoldable pub fields_at : (List Word → Read Written) → List Word → Read FieldItems
fields_at ty [] = Ok (unit, [])
fields_at ty (group b inside s ∷ ws) = fields_in ty b (words_of inside) ws
fields_at ty (w ∷ ws) = Ok (unit, w ∷ ws)

-- a group in these brackets stands first
abbrev pub begins_group : Bracket → List Word → Bool
begins_group b (group a inside s ∷ ws) = same_bracket b a
begins_group b _ = false

-- `;`, where no fields stand
abbrev pub without_fields : List Word → Read FieldItems
without_fields ws = sign_at Semicolon ws >>= λ end. Ok (unit, end.1)

-- fields in parentheses, the where clause and `;`
unfoldable pub tuple_body_at : Readers → List Word → Read FieldItems
tuple_body_at r ws = fields_at r.ty ws >>= λ fs. after_where r fs.1 >>= λ us. sign_at Semicolon us >>= λ end. Ok (fs.0, end.1)

-- the where clause, and fields in braces or `;`
unfoldable pub other_body_at : Readers → List Word → Read FieldItems
other_body_at r ws = after_where r ws >>= λ us. cond (begins_group Curly us) (fields_at r.ty us) (without_fields us)

-- what follows the name and the generics of a struct
unfoldable pub struct_body_at : Readers → List Word → Read FieldItems
struct_body_at r ws = cond (begins_group Round ws) (tuple_body_at r ws) (other_body_at r ws)

-- behind `=`, all up to the next comma
abbrev pub value_at : List Word → Read (Option (List Word))
value_at ws = cond (is_end (before_comma ws)) (Err wrong) (Ok (Some (before_comma ws), from_comma ws))

abbrev pub value_or_none : List Word → Read Span → Read (Option (List Word))
value_or_none ws (Ok e) = value_at e.1
value_or_none ws (Err e) = Ok (None, ws)

unfoldable pub discriminant_at : List Word → Read (Option (List Word))
discriminant_at ws = value_or_none ws (sign_at Equals ws)

abbrev pub variant_of : List AttributeItem → Ident → List Word → FieldItems → Option (List Word) × List Word → VariantItem × List Word
variant_of attrs x start fs value = (record { attrs = attrs; ident = x; fields = fs; discriminant = value.0; span = spanning start value.1 }, value.1)

unfoldable pub variant_at : (List Word → Read Written) → List Word → Read VariantItem
variant_at ty ws = attributes_at ws >>= λ d. name_at d.1 >>= λ x. fields_at ty x.1 >>= λ fs. discriminant_at fs.1 >>= λ value. Ok (variant_of d.0 x.0 d.1 fs.0 value)

-- what follows the name and the generics of an enum
unfoldable pub enum_body_at : Readers → List Word → Read (List VariantItem)
enum_body_at r ws = after_where r ws >>= λ us. group_at Curly us >>= λ g. list_of (variant_at r.ty) (words_of g.0.0) >>= λ vs. Ok (vs, g.1)

abbrev pub head_of : Ident → List ParameterItem → BodyItem → HeadItem
head_of x ps body = record { ident = x; generics = ps; body = body }

-- a struct, an enum, and either
unfoldable pub struct_at : Readers → List Word → Read HeadItem
struct_at r ws = keyword_at Struct ws >>= λ s. name_at s.1 >>= λ x. generics_at r x.1 >>= λ ps. struct_body_at r ps.1 >>= λ fs. Ok (head_of x.0 ps.0 (struct_body fs.0), fs.1)

unfoldable pub enum_at : Readers → List Word → Read HeadItem
enum_at r ws = keyword_at Enum ws >>= λ e. name_at e.1 >>= λ x. generics_at r x.1 >>= λ ps. enum_body_at r ps.1 >>= λ vs. Ok (head_of x.0 ps.0 (enum_body vs.0), vs.1)

abbrev pub struct_or_enum : Readers → List Word → Read Span → Read HeadItem
struct_or_enum r ws (Ok s) = struct_at r ws
struct_or_enum r ws (Err e) = enum_at r ws

unfoldable pub declaration_at : Readers → List Word → Read HeadItem
declaration_at r ws = struct_or_enum r ws (keyword_at Struct ws)

abbrev pub declared_of : List AttributeItem → List Word → HeadItem × List Word → DeclaredItem
declared_of attrs start d = record { attrs = attrs; ident = d.0.ident; generics = d.0.generics; body = d.0.body; span = spanning start d.1 }

abbrev pub left_by : Option (List Word) → Read (Option DeclaredItem)
left_by None = Err wrong
left_by (Some rest) = Ok (None, rest)

-- a `use` line, of which nothing is kept, or a declaration
abbrev pub use_or_declaration : Readers → List AttributeItem → List Word → List Word → Read Span → Read (Option DeclaredItem)
use_or_declaration r attrs start ws (Ok u) = left_by (after_semicolon u.1)
use_or_declaration r attrs start ws (Err e) = declaration_at r ws >>= λ d. Ok (Some (declared_of attrs start d), d.1)

abbrev pub use_or_declaration_in : Readers → List AttributeItem → List Word → List Word → Read (Option DeclaredItem)
use_or_declaration_in r attrs start us = use_or_declaration r attrs start us (keyword_at Use us)

unfoldable pub item_at : Readers → List Word → Read (Option DeclaredItem)
item_at r ws = attributes_at ws >>= λ d. use_or_declaration_in r d.0 d.1 (after_visibility false d.1)

abbrev pub kept : Option DeclaredItem → List DeclaredItem
kept None = []
kept (Some d) = d ∷ []

-- an inner doc comment, or an inner attribute; what follows
abbrev pub after_inner_attribute : List Word → Result (List Word) Fault
after_inner_attribute ws = sign_at Hash ws >>= λ h. sign_at Exclamation h.1 >>= λ e. group_at Square e.1 >>= λ g. Ok g.1

abbrev pub inner_at : List Word → Result (List Word) Fault
inner_at [] = Err wrong
inner_at (w ∷ ws) = cond (is_inner_doc w) (Ok ws) (after_inner_attribute (w ∷ ws))

abbrev pub inner_from : (List Word → List Word) → List Word → Result (List Word) Fault → List Word
inner_from again ws (Ok us) = again us
inner_from again ws (Err e) = ws

-- with a bound on their number
unfoldable pub after_inner_within : ℕ → List Word → List Word
after_inner_within zero ws = ws
after_inner_within (suc n) ws = inner_from (after_inner_within n) ws (inner_at ws)

unfoldable pub after_inner : List Word → List Word
after_inner ws = after_inner_within (length ws) ws

abbrev pub items_at : Readers → List Word → Result (List DeclaredItem) Fault
items_at r ws = many_of kept (item_at r) ws

unfoldable pub source_at : Readers → List Word → Result (List DeclaredItem) Fault
source_at r ws = items_at r (after_inner ws)

-- The grammar of items (The Rust Reference, "Items", "Structs", "Enumerations", "Visibility and Privacy"). In `IsX before x rest` the words before begin with an x, and rest is what follows it.
use Rattle.std.specs.Prelude.{◌≡◌, List, [], ◌∷◌, Option, Some, None, true, false}
use Rattle.texts.specs.declared.span.Span.{Span}
use Rattle.tokens.specs.declared.token.Token.{Token}
use Rattle.tokens.specs.declared.token.Bracket.TheVariants.{Round, Square, Curly}
use Rattle.tokens.specs.Trees.{Trees}
use Rattle.written_types.specs.declared.written.Ident.{Ident}
use Rattle.written_types.specs.Written.{Written}
use Rattle.words.specs.declared.vocabulary.Keyword.TheVariants.{Pub, Struct, Enum, Use}
use Rattle.words.specs.declared.vocabulary.Sign.TheVariants.{Colon, Semicolon, Equals, Hash, Exclamation}
use Rattle.words.specs.Words.{Word, name, keyword, sign, doc, group, words_of}
use Rattle.type_grammar.specs.Grammar.{IsType}
use Rattle.words.specs.Lists.{IsList}
use Rattle.attributes.specs.Attributes.{AttributeItem}
use Rattle.attributes.specs.AttributeWords.{is_inner_text}
use Rattle.attributes.specs.AttributeGrammar.{IsAttributes}
use Rattle.syntax.specs.Items.{FieldItem, FieldItems, named, unnamed, unit, VariantItem, ParameterItem, struct_body, enum_body, DeclaredItem}
use Rattle.syntax.specs.Generics.{IsGenerics, IsWhere}
use Rattle.words.specs.Visibility.{after_semicolon, is_end, is_restriction}
use Rattle.syntax.specs.ItemWords.{before_comma, from_comma, spanning}

-- vis? = ("pub" ( "(" ("crate" | "self" | "super") ")" | "(" "in" any* ")" )?)?
pub data IsVisibility : List Word → List Word → Type 0 where
  private : {rest : List Word} → IsVisibility rest rest
  public : {x : Ident} {rest : List Word} → IsVisibility (keyword Pub x ∷ rest) rest
  restricted : {x : Ident} {inside : Trees} {s : Span} {rest : List Word} → is_restriction (words_of inside) ≡ true → IsVisibility (keyword Pub x ∷ group Round inside s ∷ rest) rest

-- attribute* vis? name ":" type
pub data IsNamedField : List Word → FieldItem → List Word → Type 0 where
  named_field : {x : Ident} {s : Span} {t : Written} {attrs : List AttributeItem} {ws us vs rest : List Word} → IsAttributes ws attrs us → IsVisibility us (name x ∷ sign Colon s ∷ vs) → IsType vs t rest
      → IsNamedField ws (record { attrs = attrs; ident = Some x; ty = t; span = spanning us rest }) rest

-- attribute* vis? type
pub data IsUnnamedField : List Word → FieldItem → List Word → Type 0 where
  unnamed_field : {t : Written} {attrs : List AttributeItem} {ws us vs rest : List Word} → IsAttributes ws attrs us → IsVisibility us vs → IsType vs t rest
      → IsUnnamedField ws (record { attrs = attrs; ident = None; ty = t; span = spanning us rest }) rest

-- the fields of a struct or of a variant: "{" list of named "}" | "(" list of unnamed ")" | nothing, of a variant
pub data IsFields : List Word → FieldItems → List Word → Type 0 where
  named_fields : {inside : Trees} {s : Span} {rest : List Word} {fs : List FieldItem} → IsList IsNamedField (words_of inside) fs → IsFields (group Curly inside s ∷ rest) (named fs) rest
  unnamed_fields : {inside : Trees} {s : Span} {rest : List Word} {fs : List FieldItem} → IsList IsUnnamedField (words_of inside) fs → IsFields (group Round inside s ∷ rest) (unnamed fs) rest
  no_fields : {rest : List Word} → IsFields rest unit rest

-- what follows the name and the generics of a struct: where? "{" list of named "}" | "(" list of unnamed ")" where? ";" | where? ";"
pub data IsStructBody : List Word → FieldItems → List Word → Type 0 where
  in_braces : {fs : List FieldItem} {ws us rest : List Word} → IsWhere ws us → IsFields us (named fs) rest → IsStructBody ws (named fs) rest
  in_parentheses : {end : Span} {fs : List FieldItem} {ws us rest : List Word} → IsFields ws (unnamed fs) us → IsWhere us (sign Semicolon end ∷ rest) → IsStructBody ws (unnamed fs) rest
  fieldless : {end : Span} {ws rest : List Word} → IsWhere ws (sign Semicolon end ∷ rest) → IsStructBody ws unit rest

-- ("=" expr)?, where the expression is all up to the next comma, and is not empty
pub data IsDiscriminant : List Word → Option (List Word) → List Word → Type 0 where
  no_discriminant : {rest : List Word} → IsDiscriminant rest None rest
  discriminant : {s : Span} {ws : List Word} → is_end (before_comma ws) ≡ false → IsDiscriminant (sign Equals s ∷ ws) (Some (before_comma ws)) (from_comma ws)

-- attribute* name, the fields and the discriminant
pub data IsVariant : List Word → VariantItem → List Word → Type 0 where
  variant_item : {x : Ident} {attrs : List AttributeItem} {fs : FieldItems} {value : Option (List Word)} {ws vs mid rest : List Word} → IsAttributes ws attrs (name x ∷ vs) → IsFields vs fs mid → IsDiscriminant mid value rest
      → IsVariant ws (record { attrs = attrs; ident = x; fields = fs; discriminant = value; span = spanning (name x ∷ vs) rest }) rest

-- attribute* vis? "use" any* ";"
pub data IsUse : List Word → List Word → Type 0 where
  use_line : {x : Ident} {attrs : List AttributeItem} {ws us vs rest : List Word} → IsAttributes ws attrs us → IsVisibility us (keyword Use x ∷ vs) → after_semicolon vs ≡ Some rest → IsUse ws rest

-- attribute* vis? "struct" name, the generics and the body
pub data IsStruct : List Word → DeclaredItem → List Word → Type 0 where
  struct_item : {x y : Ident} {attrs : List AttributeItem} {ps : List ParameterItem} {fs : FieldItems} {ws us gs vs rest : List Word} → IsAttributes ws attrs us → IsVisibility us (keyword Struct x ∷ name y ∷ gs) → IsGenerics gs ps vs → IsStructBody vs fs rest
      → IsStruct ws (record { attrs = attrs; ident = y; generics = ps; body = struct_body fs; span = spanning us rest }) rest

-- what follows the name and the generics of an enum: where? "{" list of variant "}"
pub data IsEnumBody : List Word → List VariantItem → List Word → Type 0 where
  variants_in_braces : {inside : Trees} {s : Span} {ws rest : List Word} {vs : List VariantItem} → IsWhere ws (group Curly inside s ∷ rest) → IsList IsVariant (words_of inside) vs → IsEnumBody ws vs rest

-- attribute* vis? "enum" name, the generics and the body
pub data IsEnum : List Word → DeclaredItem → List Word → Type 0 where
  enum_item : {x y : Ident} {attrs : List AttributeItem} {ps : List ParameterItem} {ws us gs bs rest : List Word} {vs : List VariantItem} → IsAttributes ws attrs us → IsVisibility us (keyword Enum x ∷ name y ∷ gs) → IsGenerics gs ps bs → IsEnumBody bs vs rest
      → IsEnum ws (record { attrs = attrs; ident = y; generics = ps; body = enum_body vs; span = spanning us rest }) rest

-- struct | enum
pub data IsDeclaration : List Word → DeclaredItem → List Word → Type 0 where
  structure : {ws rest : List Word} {d : DeclaredItem} → IsStruct ws d rest → IsDeclaration ws d rest
  enumeration : {ws rest : List Word} {d : DeclaredItem} → IsEnum ws d rest → IsDeclaration ws d rest

-- item*, where a `use` line leaves nothing
pub data IsItems : List Word → List DeclaredItem → Type 0 where
  nothing : IsItems [] []
  used : {ws rest : List Word} {ds : List DeclaredItem} → IsUse ws rest → IsItems rest ds → IsItems ws ds
  declared : {ws rest : List Word} {d : DeclaredItem} {ds : List DeclaredItem} → IsDeclaration ws d rest → IsItems rest ds → IsItems ws (d ∷ ds)

-- source = (inner-doc | "#" "!" square-group)* item*
pub data IsSource : List Word → List DeclaredItem → Type 0 where
  inner_doc : {t : Token} {ws : List Word} {ds : List DeclaredItem} → is_inner_text t.text ≡ true → IsSource ws ds → IsSource (doc t ∷ ws) ds
  inner_attribute : {h e s : Span} {inside : Trees} {ws : List Word} {ds : List DeclaredItem} → IsSource ws ds → IsSource (sign Hash h ∷ sign Exclamation e ∷ group Square inside s ∷ ws) ds
  items : {ws : List Word} {ds : List DeclaredItem} → IsItems ws ds → IsSource ws ds

-- Where types of items nest too deep. Read from the left by the grammar, the first part of a type that begins at level 65 begins at the span.
use Rattle.std.specs.Prelude.{◌≡◌, ℕ, List, ◌∷◌, true}
use Rattle.texts.specs.declared.span.Span.{Span}
use Rattle.tokens.specs.declared.token.Token.{Token}
use Rattle.tokens.specs.declared.token.Bracket.TheVariants.{Round, Square, Curly}
use Rattle.tokens.specs.Trees.{Trees}
use Rattle.written_types.specs.declared.written.Ident.{Ident}
use Rattle.written_types.specs.Written.{Written}
use Rattle.words.specs.declared.vocabulary.Keyword.TheVariants.{Struct, Enum, Const, Where}
use Rattle.words.specs.declared.vocabulary.Sign.TheVariants.{Colon, Less, Hash, Exclamation}
use Rattle.words.specs.Words.{Word, name, keyword, sign, lifetime, doc, group, words_of}
use Rattle.type_grammar.specs.Grammar.{IsType}
use Rattle.type_grammar.specs.Opening.{Passes, OpensList, OpensInBounds, OpensTypeOf, OpensType, most_levels}
use Rattle.type_grammar.specs.Reading.{type_at, type_in, after_bounds}
use Rattle.attributes.specs.Attributes.{AttributeItem}
use Rattle.attributes.specs.AttributeWords.{is_inner_text}
use Rattle.attributes.specs.AttributeGrammar.{IsAttributes}
use Rattle.syntax.specs.Items.{FieldItem, unnamed, ParameterItem, DeclaredItem}
use Rattle.syntax.specs.Generics.{IsParameter, IsGenerics, IsPredicate, IsWhere}
use Rattle.syntax.specs.GenericReading.{Readers}
use Rattle.syntax.specs.ItemGrammar.{IsVisibility, IsNamedField, IsUnnamedField, IsFields, IsVariant, IsUse, IsDeclaration}

-- A path among bounds is at level 1, as a path that is a type is; what stands in its arguments has the other 63.
abbrev pub most_in_bounds : ℕ
most_in_bounds = 63

abbrev pub within_levels : Readers
within_levels = record { ty = type_at most_levels; after_bounds = after_bounds (type_in most_in_bounds) }

abbrev pub OpensBounds : List Word → Span → Type 0
OpensBounds = OpensInBounds (OpensTypeOf most_in_bounds)

-- in the bounds of a type parameter, or in the type of a constant one
pub data OpensParameter : List Word → Span → Type 0 where
  in_type_bounds : {x : Ident} {s at : Span} {attrs : List AttributeItem} {ws us : List Word} → IsAttributes ws attrs (name x ∷ sign Colon s ∷ us) → OpensBounds us at → OpensParameter ws at
  in_const_type : {k x : Ident} {s at : Span} {attrs : List AttributeItem} {ws us : List Word} → IsAttributes ws attrs (keyword Const k ∷ name x ∷ sign Colon s ∷ us) → OpensType most_levels us at → OpensParameter ws at

pub data OpensGenerics : List Word → Span → Type 0 where
  in_parameters : {open_at at : Span} {ws : List Word} → OpensList IsParameter OpensParameter ws at → OpensGenerics (sign Less open_at ∷ ws) at

-- in the type that a predicate bounds, or in its bounds
pub data OpensPredicate : List Word → Span → Type 0 where
  in_lifetime_bounds : {x : Ident} {s at : Span} {ws : List Word} → OpensBounds ws at → OpensPredicate (lifetime x ∷ sign Colon s ∷ ws) at
  in_bounded_type : {at : Span} {ws : List Word} → OpensType most_levels ws at → OpensPredicate ws at
  in_predicate_bounds : {s at : Span} {t : Written} {ws us : List Word} → IsType ws t (sign Colon s ∷ us) → Passes (OpensType most_levels) ws → OpensBounds us at → OpensPredicate ws at

pub data OpensWhere : List Word → Span → Type 0 where
  in_predicates : {x : Ident} {at : Span} {ws : List Word} → OpensList IsPredicate OpensPredicate ws at → OpensWhere (keyword Where x ∷ ws) at

-- in a field's type
pub data OpensNamed : List Word → Span → Type 0 where
  in_named : {x : Ident} {s at : Span} {attrs : List AttributeItem} {ws us vs : List Word} → IsAttributes ws attrs us → IsVisibility us (name x ∷ sign Colon s ∷ vs) → OpensType most_levels vs at → OpensNamed ws at

pub data OpensUnnamed : List Word → Span → Type 0 where
  in_unnamed : {at : Span} {attrs : List AttributeItem} {ws us vs : List Word} → IsAttributes ws attrs us → IsVisibility us vs → OpensType most_levels vs at → OpensUnnamed ws at

-- in the fields of a struct or of a variant
pub data OpensFields : List Word → Span → Type 0 where
  in_named_fields : {inside : Trees} {s at : Span} {rest : List Word} → OpensList IsNamedField OpensNamed (words_of inside) at → OpensFields (group Curly inside s ∷ rest) at
  in_unnamed_fields : {inside : Trees} {s at : Span} {rest : List Word} → OpensList IsUnnamedField OpensUnnamed (words_of inside) at → OpensFields (group Round inside s ∷ rest) at

-- in a variant; no types are read in its discriminant
pub data OpensVariant : List Word → Span → Type 0 where
  in_variant_fields : {x : Ident} {at : Span} {attrs : List AttributeItem} {ws vs : List Word} → IsAttributes ws attrs (name x ∷ vs) → OpensFields vs at → OpensVariant ws at

-- in what follows the name and the generics of a struct: a where clause and fields in braces, fields in parentheses and a where clause, or a where clause alone
pub data OpensStructBody : List Word → Span → Type 0 where
  in_first_clause : {at : Span} {ws : List Word} → OpensWhere ws at → OpensStructBody ws at
  in_braced : {inside : Trees} {s at : Span} {ws rest : List Word} → IsWhere ws (group Curly inside s ∷ rest) → Passes OpensWhere ws → OpensFields (group Curly inside s ∷ rest) at → OpensStructBody ws at
  in_tuple : {inside : Trees} {s at : Span} {rest : List Word} → OpensFields (group Round inside s ∷ rest) at → OpensStructBody (group Round inside s ∷ rest) at
  in_last_clause : {at : Span} {fs : List FieldItem} {ws us : List Word} → IsFields ws (unnamed fs) us → Passes OpensFields ws → OpensWhere us at → OpensStructBody ws at

-- in what follows the name and the generics of an enum
pub data OpensEnumBody : List Word → Span → Type 0 where
  in_enum_clause : {at : Span} {ws : List Word} → OpensWhere ws at → OpensEnumBody ws at
  in_variants : {inside : Trees} {s at : Span} {ws rest : List Word} → IsWhere ws (group Curly inside s ∷ rest) → Passes OpensWhere ws → OpensList IsVariant OpensVariant (words_of inside) at → OpensEnumBody ws at

-- in a struct, an enum, and either
pub data OpensStruct : List Word → Span → Type 0 where
  in_struct_generics : {x y : Ident} {at : Span} {attrs : List AttributeItem} {ws us gs : List Word} → IsAttributes ws attrs us → IsVisibility us (keyword Struct x ∷ name y ∷ gs) → OpensGenerics gs at → OpensStruct ws at
  in_struct_body : {x y : Ident} {at : Span} {attrs : List AttributeItem} {ps : List ParameterItem} {ws us gs vs : List Word} → IsAttributes ws attrs us → IsVisibility us (keyword Struct x ∷ name y ∷ gs) → IsGenerics gs ps vs → Passes OpensGenerics gs
      → OpensStructBody vs at → OpensStruct ws at

pub data OpensEnum : List Word → Span → Type 0 where
  in_enum_generics : {x y : Ident} {at : Span} {attrs : List AttributeItem} {ws us gs : List Word} → IsAttributes ws attrs us → IsVisibility us (keyword Enum x ∷ name y ∷ gs) → OpensGenerics gs at → OpensEnum ws at
  in_enum_body : {x y : Ident} {at : Span} {attrs : List AttributeItem} {ps : List ParameterItem} {ws us gs bs : List Word} → IsAttributes ws attrs us → IsVisibility us (keyword Enum x ∷ name y ∷ gs) → IsGenerics gs ps bs → Passes OpensGenerics gs
      → OpensEnumBody bs at → OpensEnum ws at

pub data OpensDeclaration : List Word → Span → Type 0 where
  in_struct : {at : Span} {ws : List Word} → OpensStruct ws at → OpensDeclaration ws at
  in_enum : {at : Span} {ws : List Word} → OpensEnum ws at → OpensDeclaration ws at

-- in items: in their first declaration, or where nothing opens there, in those behind it
pub data OpensItems : List Word → Span → Type 0 where
  in_declaration : {at : Span} {ws : List Word} → OpensDeclaration ws at → OpensItems ws at
  behind_use : {at : Span} {ws rest : List Word} → IsUse ws rest → OpensItems rest at → OpensItems ws at
  behind_declaration : {at : Span} {ws rest : List Word} {d : DeclaredItem} → IsDeclaration ws d rest → Passes OpensDeclaration ws → OpensItems rest at → OpensItems ws at

-- in a source
pub data OpensSource : List Word → Span → Type 0 where
  behind_inner_doc : {t : Token} {at : Span} {ws : List Word} → is_inner_text t.text ≡ true → OpensSource ws at → OpensSource (doc t ∷ ws) at
  behind_inner_attribute : {h e s at : Span} {inside : Trees} {ws : List Word} → OpensSource ws at → OpensSource (sign Hash h ∷ sign Exclamation e ∷ group Square inside s ∷ ws) at
  in_items : {at : Span} {ws : List Word} → OpensItems ws at → OpensSource ws at

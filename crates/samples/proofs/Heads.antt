-- The words of a sample's declarations around what stands in braces, and what they are read as.
use Rattle.std.proofs.Common.{◌≡◌, List, [], ◌∷◌, ℕ, refl, ◌<◌, ap, arith, codes, None, Some, Result, Ok}
use Rattle.std.specs.List.{AllByRecursion}
use Rattle.std.proofs.lemmas.List.Elements.{All-from_recursion}
use Rattle.std.proofs.lemmas.Str.{chars-IsAscii}
use Rattle.std.proofs.lemmas.Str.Ascii.{IsAscii-from_all}
use Rattle.texts.specs.declared.span.Span.{Span}
use Rattle.tokens.specs.Trees.{Trees, token, end, ◌▸◌}
use Rattle.tokens.specs.Trees as trees
use Rattle.tokens.specs.declared.token.Bracket.TheVariants.{Round, Square, Curly}
use Rattle.tokens.specs.declared.token.TokenKind.TheVariants as kinds
use Rattle.words.specs.declared.vocabulary.Keyword.TheVariants.{Struct, Enum}
use Rattle.words.specs.declared.vocabulary.Sign.TheVariants.{Comma, Hash, Less, Greater}
use Rattle.words.specs.Words.{Word, keyword, sign, group, words_of, cover, keyword_of, is_reserved, sign_of}
use Rattle.words.specs.Reading.{Fault}
use Rattle.words.specs.Lists.{list_of, many_of, many_at, turn_at}
use Rattle.type_grammar.specs.Reading.{type_at, list_until, list_at}
use Rattle.type_grammar.specs.Opening.{most_levels}
use Rattle.literal_values.specs.Values.{string_value, text_value}
use Rattle.attributes.specs.Attributes.{AttributeItem, items}
use Rattle.attributes.specs.AttributeWords.{attribute_item, path_item}
use Rattle.attributes.specs.AttributeReading.{attributes_at, attributes_within, attribute_at, attribute_in, path_at, idents_at, meta_of, items_of, serde_item_at, value_at, text_at}
use Rattle.syntax.specs.Items.{FieldItem, named, unit, VariantItem, type_parameter, struct_body, enum_body}
use Rattle.syntax.specs.ItemDepth.{within_levels}
use Rattle.syntax.specs.ItemWords.{spanning}
use Rattle.syntax.specs.GenericReading.{generics_at, parameter_at, bare_parameter_at, after_bounded, after_where}
use Rattle.syntax.specs.ItemReading.{item_at, declaration_at, struct_at, enum_at, enum_body_at, struct_body_at, other_body_at, fields_at, after_visibility, variant_at, discriminant_at}
use Rattle.samples.proofs.Known.{called, ident}
use Rattle.samples.proofs.Fields.{read_fields}

abbrev pub struct_word : Span → Word
struct_word s = keyword Struct (ident (codes "struct") s)

-- a struct
pub plain_item : (x : List ℕ) (a b c : Span) (inside : Trees) (rest : List Word) (fs : List FieldItem) → read_fields (words_of inside) ≡ Ok fs
    → item_at within_levels (struct_word a ∷ called x b ∷ group Curly inside c ∷ rest)
    ≡ Ok (Some (record { attrs = []; ident = ident x b; generics = []; body = struct_body (named fs); span = spanning (struct_word a ∷ called x b ∷ group Curly inside c ∷ rest) rest }), rest)
unfolding item_at declaration_at struct_at generics_at struct_body_at other_body_at after_where fields_at after_visibility attributes_at attributes_within
plain_item x a b c inside rest fs e = rw e refl

-- a struct over a type parameter
pub generic_item : (x : List ℕ) (a b c d f g : Span) (inside : Trees) (rest : List Word) (fs : List FieldItem) → read_fields (words_of inside) ≡ Ok fs
    → item_at within_levels (struct_word a ∷ called x b ∷ sign Less c ∷ called (codes "T") d ∷ sign Greater f ∷ group Curly inside g ∷ rest)
    ≡ Ok (
      Some (record {
        attrs = [];
        ident = ident x b;
        generics = type_parameter (ident (codes "T") d) ∷ [];
        body = struct_body (named fs);
        span = spanning (struct_word a ∷ called x b ∷ sign Less c ∷ called (codes "T") d ∷ sign Greater f ∷ group Curly inside g ∷ rest) rest;
      }),
      rest,
    )
unfolding item_at declaration_at struct_at generics_at parameter_at bare_parameter_at after_bounded struct_body_at other_body_at after_where fields_at after_visibility attributes_at attributes_within list_until list_at
generic_item x a b c d f g inside rest fs e = rw e refl

-- the variants of an enum
abbrev pub sample_variants : (a b c d : Span) → Trees → List FieldItem → List VariantItem
sample_variants a b c d inside fs =
    record { attrs = []; ident = ident (codes "A") a; fields = unit; discriminant = None; span = spanning (called (codes "A") a ∷ sign Comma b ∷ called (codes "B") c ∷ group Curly inside d ∷ []) (sign Comma b ∷ called (codes "B") c ∷ group Curly inside d ∷ []) }
    ∷ record { attrs = []; ident = ident (codes "B") c; fields = named fs; discriminant = None; span = spanning (called (codes "B") c ∷ group Curly inside d ∷ []) [] } ∷ []

abbrev pub read_variants : List Word → Result (List VariantItem) Fault
read_variants ws = list_of (variant_at (type_at most_levels)) ws

pub variants_read : (a b c d : Span) (inside : Trees) (fs : List FieldItem) → read_fields (words_of inside) ≡ Ok fs
    → read_variants (called (codes "A") a ∷ sign Comma b ∷ called (codes "B") c ∷ group Curly inside d ∷ []) ≡ Ok (sample_variants a b c d inside fs)
unfolding variant_at discriminant_at fields_at attributes_at attributes_within many_of many_at turn_at
variants_read a b c d inside fs e = rw e refl

-- ---- enums

-- the trees of `[serde(tag = "t")]`
abbrev pub attribute_trees : (a b c d f : Span) → Trees
attribute_trees a b c d f =
    token (record { kind = kinds.Ident; text = codes "serde"; span = a })
    ▸ trees.group Round (token (record { kind = kinds.Ident; text = codes "tag"; span = b }) ▸ token (record { kind = kinds.Punct; text = codes "="; span = c }) ▸ token (record { kind = kinds.Literal; text = codes "\"t\""; span = d }) ▸ end) f ▸ end

abbrev pub enum_word : Span → Word
enum_word s = keyword Enum (ident (codes "enum") s)

-- `"t"` says t
tag_text : (d : Span) → text_value (record { kind = kinds.Literal; text = codes "\"t\""; span = d }) ≡ Some (codes "t")
unfolding lib.Utf8.encode
tag_text d =
    let ascii : AllByRecursion (λ c. c < 128) (codes "\"t\"") = (omega arith, (omega arith, (omega arith, tt))) in
    ap string_value (chars-IsAscii (codes "\"t\"") (IsAscii-from_all (codes "\"t\"") (All-from_recursion (λ c. c < 128) (codes "\"t\"") ascii)))

-- the attribute that stands before an enum
abbrev pub tag_attribute : (a b c d f h g : Span) → AttributeItem
tag_attribute a b c d f h g =
    attribute_item (path_item (ident (codes "serde") a ∷ []))
    (items Round (token (record { kind = kinds.Ident; text = codes "tag"; span = b }) ▸ token (record { kind = kinds.Punct; text = codes "="; span = c }) ▸ token (record { kind = kinds.Literal; text = codes "\"t\""; span = d }) ▸ end) f)
    (record { name = ident (codes "tag") b; value = Some (record { text = codes "t"; span = d }) } ∷ []) (cover h g)

pub attribute_read : (a b c d f h g k : Span) (rest : List Word)
    → attributes_at (sign Hash h ∷ group Square (attribute_trees a b c d f) g ∷ enum_word k ∷ rest) ≡ Ok (tag_attribute a b c d f h g ∷ [], enum_word k ∷ rest)
unfolding attributes_at attributes_within attribute_at attribute_in path_at idents_at path_item meta_of items_of serde_item_at value_at text_at keyword_of is_reserved sign_of many_of many_at turn_at
attribute_read a b c d f h g k rest = rw (tag_text d) refl

-- an enum
pub tagged_item : (x : List ℕ) (a b c d f h g k m n : Span) (inside : Trees) (rest : List Word) (vs : List VariantItem) → read_variants (words_of inside) ≡ Ok vs
    → item_at within_levels (sign Hash h ∷ group Square (attribute_trees a b c d f) g ∷ enum_word k ∷ called x m ∷ group Curly inside n ∷ rest)
    ≡ Ok (
      Some (record {
        attrs = tag_attribute a b c d f h g ∷ [];
        ident = ident x m;
        generics = [];
        body = enum_body vs;
        span = spanning (enum_word k ∷ called x m ∷ group Curly inside n ∷ rest) rest;
      }),
      rest,
    )
unfolding item_at declaration_at enum_at generics_at enum_body_at after_where after_visibility
tagged_item x a b c d f h g k m n inside rest vs e = rw (attribute_read a b c d f h g k (called x m ∷ group Curly inside n ∷ rest), e) refl

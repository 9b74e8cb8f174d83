-- What the fields of a sample's declarations are read as, and what these are resolved to.
use Rattle.std.proofs.Common.{◌≡◌, ℕ, List, [], ◌∷◌, ◌++◌, refl, codes, false, Some, Result, Ok, slice_index}
use Rattle.std.specs.List.{flat_map}
use Rattle.texts.specs.declared.span.Span.{Span}
use Rattle.words.specs.declared.vocabulary.Sign.TheVariants.{Less, Greater}
use Rattle.words.specs.Words.{Word, sign, words_of, keyword_of, is_reserved, sign_of}
use Rattle.words.specs.Reading.{Fault}
use Rattle.words.specs.Lists.{list_of, many_of, many_at, turn_at}
use Rattle.type_grammar.specs.Reading.{type_at, type_in, type_step, path_at, segments_in, segments_at, segment_at, argument_at, list_until, list_at}
use Rattle.type_grammar.specs.Opening.{most_levels}
use Rattle.attributes.specs.AttributeReading.{attributes_at, attributes_within}
use Rattle.configuration.specs.Configuration.{empty_configuration}
use Rattle.syntax.specs.Items.{FieldItem, named, DeclaredItem}
use Rattle.syntax.specs.ItemReading.{named_field_at, after_visibility}
use Rattle.open_types.specs.Open as types
use Rattle.shapes.specs.Declarations.{alone, named_fields}
use Rattle.scopes.specs.Names.{place_among}
use Rattle.scopes.specs.Parameters.{parameter_counts}
use Rattle.derive_decl.specs.Resolved.{around_of, form_of}
use Rattle.samples.specs.Spelling.{end, trees_at}
use Rattle.samples.specs.Rings.{Turn, plain_struct, generic_struct, tagged_enum, parameters, arguments, members}
use Rattle.samples.proofs.Spelled.{front, back}
use Rattle.samples.proofs.Known.{called, generics, IsKnown}

-- the words of a type
abbrev pub type_words : Turn → Word → (less argument greater : Span) → List Word
type_words generic_struct w less argument greater = w ∷ sign Less less ∷ called (codes "bool") argument ∷ sign Greater greater ∷ []
type_words _ w less argument greater = w ∷ []

-- the words in braces, where the type has these
abbrev pub around_type : Turn → (at behind : ℕ) → List Word → List Word
around_type t at behind of = words_of (trees_at at (front t end)) ++ (of ++ words_of (trees_at behind (back t)))

abbrev pub read_fields : List Word → Result (List FieldItem) Fault
read_fields ws = list_of (named_field_at (type_at most_levels)) ws

-- the type's name stands for the declaration at the place, which has as many parameters as its turn says
pub record IsPlaced (ds : List DeclaredItem) (of : Turn) (type : List ℕ) (j : ℕ) : Type 0 where
  pub place : place_among ds type ≡ Some j
  pub count : slice_index (parameter_counts ds) j ≡ parameters of

-- The words are read as these fields, before which nothing stands, and which are resolved to the members over the place of the type.
pub record AreSampleFields (t of : Turn) (type : List ℕ) (ws : List Word) (fs : List FieldItem) : Type 0 where
  pub read : read_fields ws ≡ Ok fs
  pub bare : flat_map (λ f. f.attrs) fs ≡ []
  pub form : (ds : List DeclaredItem) (owner : List ℕ) (s : Span) (j : ℕ) → IsPlaced ds of type j
      → form_of (around_of empty_configuration ds owner (generics t s)) [] (named fs) ≡ Some (named_fields (alone false) (members t (types.named j (arguments of))))

-- the words of each are read so
pub fields_read : (t of : Turn) (type : List ℕ) → IsKnown of type → (at behind : ℕ) (l a g s : Span)
    → (fs : List FieldItem) × AreSampleFields t of type (around_type t at behind (type_words of (called type s) l a g)) fs
unfolding keyword_of is_reserved sign_of many_of many_at turn_at named_field_at attributes_at attributes_within after_visibility type_in type_step path_at segments_in segments_at segment_at argument_at list_until list_at
fields_read plain_struct plain_struct type known at behind l a g s =
    (_, record { read = refl; bare = refl; form = λ ds owner p j placed. rw (known.stands plain_struct ds owner p s a j placed.place, placed.count) refl })
fields_read plain_struct generic_struct type known at behind l a g s =
    (_, record { read = refl; bare = refl; form = λ ds owner p j placed. rw (known.stands plain_struct ds owner p s a j placed.place, placed.count) refl })
fields_read plain_struct tagged_enum type known at behind l a g s =
    (_, record { read = refl; bare = refl; form = λ ds owner p j placed. rw (known.stands plain_struct ds owner p s a j placed.place, placed.count) refl })
fields_read generic_struct plain_struct type known at behind l a g s =
    (_, record { read = refl; bare = refl; form = λ ds owner p j placed. rw (known.stands generic_struct ds owner p s a j placed.place, placed.count) refl })
fields_read generic_struct generic_struct type known at behind l a g s =
    (_, record { read = refl; bare = refl; form = λ ds owner p j placed. rw (known.stands generic_struct ds owner p s a j placed.place, placed.count) refl })
fields_read generic_struct tagged_enum type known at behind l a g s =
    (_, record { read = refl; bare = refl; form = λ ds owner p j placed. rw (known.stands generic_struct ds owner p s a j placed.place, placed.count) refl })
fields_read tagged_enum plain_struct type known at behind l a g s =
    (_, record { read = refl; bare = refl; form = λ ds owner p j placed. rw (known.stands tagged_enum ds owner p s a j placed.place, placed.count) refl })
fields_read tagged_enum generic_struct type known at behind l a g s =
    (_, record { read = refl; bare = refl; form = λ ds owner p j placed. rw (known.stands tagged_enum ds owner p s a j placed.place, placed.count) refl })
fields_read tagged_enum tagged_enum type known at behind l a g s =
    (_, record { read = refl; bare = refl; form = λ ds owner p j placed. rw (known.stands tagged_enum ds owner p s a j placed.place, placed.count) refl })

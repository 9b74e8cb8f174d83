-- What stands in the braces of a sample's declarations is read as its fields.
use Rattle.std.proofs.Common.{◌≡◌, ◌∙◌, ℕ, List, refl, ap}
use Rattle.texts.specs.Span.{no_span}
use Rattle.texts.specs.declared.span.Span.{Span}
use Rattle.tokens.specs.declared.token.TokenKind.TheVariants.{Ident}
use Rattle.words.specs.Words.{Word, words_of, token_word, keyword_of, is_reserved, sign_of}
use Rattle.syntax.specs.Items.{FieldItem}
use Rattle.samples.specs.Spelling.{trees_at}
use Rattle.samples.specs.Rings.{Turn, plain_struct, generic_struct, tagged_enum}
use Rattle.samples.proofs.Spelled.{members_spelling}
use Rattle.samples.proofs.Known.{IsKnown}
use Rattle.samples.proofs.Fields.{type_words, around_type, read_fields, AreSampleFields, fields_read}

abbrev pub word_at : List ℕ → Span → Word
word_at text s = token_word Ident (record { kind = Ident; text = text; span = s })

-- with the type's name as a token
module _ (t of : Turn) (type : List ℕ) (known : IsKnown of type) where
  named_so : (at behind : ℕ) (l a g s : Span) (ws : List Word) → ws ≡ around_type t at behind (type_words of (word_at type s) l a g)
      → (fs : List FieldItem) × AreSampleFields t of type ws fs
  named_so at behind l a g s ws e =
      let found = fields_read t of type known at behind l a g s in (
        found.0,
        record {
          read = ap read_fields e ∙ ap (λ w. read_fields (around_type t at behind (type_words of w l a g))) (known.word s) ∙ found.1.read;
          bare = found.1.bare;
          form = found.1.form;
        },
      )

-- what stands in braces is read as the fields of its turn
pub fields_inside : (t of : Turn) (type : List ℕ) → IsKnown of type → (at : ℕ)
    → (fs : List FieldItem) × AreSampleFields t of type (words_of (trees_at at (members_spelling t of type))) fs
unfolding keyword_of is_reserved sign_of
fields_inside plain_struct plain_struct type known at = named_so plain_struct plain_struct type known at _ no_span no_span no_span _ _ refl
fields_inside plain_struct generic_struct type known at = named_so plain_struct generic_struct type known at _ _ _ _ _ _ refl
fields_inside plain_struct tagged_enum type known at = named_so plain_struct tagged_enum type known at _ no_span no_span no_span _ _ refl
fields_inside generic_struct plain_struct type known at = named_so generic_struct plain_struct type known at _ no_span no_span no_span _ _ refl
fields_inside generic_struct generic_struct type known at = named_so generic_struct generic_struct type known at _ _ _ _ _ _ refl
fields_inside generic_struct tagged_enum type known at = named_so generic_struct tagged_enum type known at _ no_span no_span no_span _ _ refl
fields_inside tagged_enum plain_struct type known at = named_so tagged_enum plain_struct type known at _ no_span no_span no_span _ _ refl
fields_inside tagged_enum generic_struct type known at = named_so tagged_enum generic_struct type known at _ _ _ _ _ _ refl
fields_inside tagged_enum tagged_enum type known at = named_so tagged_enum tagged_enum type known at _ no_span no_span no_span _ _ refl

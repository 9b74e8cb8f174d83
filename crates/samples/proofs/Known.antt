-- The names of a sample as words, and what they stand for.
use Rattle.std.proofs.Common.{◌≡◌, ℕ, List, [], ◌∷◌, refl, codes, false, ◌==◌, arith, Some}
use Rattle.std.proofs.lemmas.Bool.Decides.{nat_tests}
use Rattle.texts.specs.declared.span.Span.{Span}
use Rattle.tokens.specs.declared.token.TokenKind.TheVariants.{Ident}
use Rattle.written_types.specs.declared.written.Ident as idents
use Rattle.written_types.specs.Written.{Segment, path, path_of, plain, applied, segments_of, arguments_of, type_argument}
use Rattle.words.specs.Words.{Word, name, token_word, keyword_of, is_reserved, cover}
use Rattle.syntax.specs.Items.{ParameterItem, type_parameter, DeclaredItem}
use Rattle.resolving.specs.declared.meaning.Meaning.TheVariants as meanings
use Rattle.resolving.specs.Names.{meaning}
use Rattle.scopes.specs.Names.{place_among}
use Rattle.scopes.specs.Scopes.{known_among}
use Rattle.samples.specs.Rings.{Turn, plain_struct, generic_struct, tagged_enum, letter}
use Rattle.samples.proofs.Names.{IsDigit}

abbrev pub ident : List ℕ → Span → idents.Ident
ident text s = record { text = text; raw = false; span = s }

abbrev pub called : List ℕ → Span → Word
called text s = name (ident text s)

-- the generic parameters of a declaration
abbrev pub generics : Turn → Span → List ParameterItem
generics generic_struct s = type_parameter (ident (codes "T") s) ∷ []
generics _ s = []

-- a type as the last word of its path, with its argument where it has one
abbrev pub type_segment : Turn → List ℕ → (own argument : Span) → Segment
type_segment generic_struct text own argument =
    applied (ident text own) (arguments_of (type_argument (path (path_of false (segments_of (plain (ident (codes "bool") argument) ∷ [])) (cover argument argument))) ∷ []))
type_segment _ text own argument = plain (ident text own)

-- The text is a name wherever it stands, and as a type of that turn it stands for the declaration at its place.
pub record IsKnown (of : Turn) (text : List ℕ) : Type 0 where
  pub word : (s : Span) → token_word Ident (record { kind = Ident; text = text; span = s }) ≡ called text s
  pub stands : (t : Turn) (ds : List DeclaredItem) (owner : List ℕ) (s own argument : Span) (j : ℕ) → place_among ds text ≡ Some j
      → meaning (known_among [] ds owner (generics t s)) (type_segment of text own argument) ≡ meanings.Declared j

-- a digit is no letter
no_letter : (d : ℕ) → IsDigit d → ((d == 101) ≡ false) × ((d == 116) ≡ false)
no_letter d h = (grind (arith, nat_tests), grind (arith, nat_tests))

word_of_letter : (t : Turn) (d : ℕ) (ds : List ℕ) → IsDigit d → (s : Span) → token_word Ident (record { kind = Ident; text = letter t ∷ d ∷ ds; span = s }) ≡ called (letter t ∷ d ∷ ds) s
unfolding keyword_of is_reserved
word_of_letter plain_struct d ds h s = rw (no_letter d h).0 refl
word_of_letter generic_struct d ds h s = refl
word_of_letter tagged_enum d ds h s = refl

stands_by_letter : (of t : Turn) (d : ℕ) (rest : List ℕ) → IsDigit d → (ds : List DeclaredItem) (owner : List ℕ) (s own argument : Span) (j : ℕ) → place_among ds (letter of ∷ d ∷ rest) ≡ Some j
    → meaning (known_among [] ds owner (generics t s)) (type_segment of (letter of ∷ d ∷ rest) own argument) ≡ meanings.Declared j
stands_by_letter plain_struct plain_struct d rest h ds owner s own argument j e = rw ((no_letter d h).0, (no_letter d h).1, e) refl
stands_by_letter plain_struct generic_struct d rest h ds owner s own argument j e = rw ((no_letter d h).0, (no_letter d h).1, e) refl
stands_by_letter plain_struct tagged_enum d rest h ds owner s own argument j e = rw ((no_letter d h).0, (no_letter d h).1, e) refl
stands_by_letter generic_struct plain_struct d rest h ds owner s own argument j e = rw e refl
stands_by_letter generic_struct generic_struct d rest h ds owner s own argument j e = rw e refl
stands_by_letter generic_struct tagged_enum d rest h ds owner s own argument j e = rw e refl
stands_by_letter tagged_enum plain_struct d rest h ds owner s own argument j e = rw e refl
stands_by_letter tagged_enum generic_struct d rest h ds owner s own argument j e = rw e refl
stands_by_letter tagged_enum tagged_enum d rest h ds owner s own argument j e = rw e refl

pub known_by_letter : (of : Turn) (d : ℕ) (ds : List ℕ) → IsDigit d → IsKnown of (letter of ∷ d ∷ ds)
known_by_letter of d ds h = record { word = word_of_letter of d ds h; stands = λ t items owner s own argument j. stands_by_letter of t d ds h items owner s own argument j }

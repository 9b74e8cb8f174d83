-- What each declaration of a sample is read as, and what that is resolved to.
use Rattle.std.proofs.Common.{◌≡◌, ◌∙◌, ℕ, List, [], ◌∷◌, ◌++◌, ◌<◌, refl, ap, arith, length, codes, Some, Ok}
use Rattle.texts.specs.Span.{no_span}
use Rattle.texts.specs.declared.span.Span.{Span}
use Rattle.tokens.specs.declared.token.Bracket.TheVariants.{Square, Curly}
use Rattle.tokens.specs.Trees.{Trees}
use Rattle.words.specs.declared.vocabulary.Sign.TheVariants.{Comma, Hash, Less, Greater}
use Rattle.words.specs.Words.{Word, sign, group, words_of, keyword_of, is_reserved, sign_of}
use Rattle.attributes.specs.Attributes.{AttributeItem}
use Rattle.attributes.specs.AttributeWords.{path_item}
use Rattle.configuration.specs.Configuration.{empty_configuration}
use Rattle.syntax.specs.Items.{DeclaredItem}
use Rattle.syntax.specs.ItemDepth.{within_levels}
use Rattle.syntax.specs.ItemReading.{item_at}
use Rattle.open_types.specs.Open.{named}
use Rattle.shapes.specs.Declarations.{unannotated}
use Rattle.scopes.specs.Parameters.{type_parameters}
use Rattle.derive_decl.specs.Attributed.{first_other, attributes_in}
use Rattle.derive_decl.specs.Whole.{resolved_among}
use Rattle.samples.specs.Spelling.{Spelling, trees_at}
use Rattle.samples.specs.Rings.{Turn, plain_struct, generic_struct, tagged_enum, parameters, arguments, body}
use Rattle.samples.proofs.Spelled.{members_spelling, declaration_spelling}
use Rattle.samples.proofs.Known.{called, IsKnown}
use Rattle.samples.proofs.Fields.{IsPlaced}
use Rattle.samples.proofs.Bodies.{word_at, fields_inside}
use Rattle.samples.proofs.Heads.{struct_word, enum_word, attribute_trees, sample_variants, read_variants, variants_read, plain_item, generic_item, tagged_item}

-- The item has the name and the parameters of its turn, something is derived from its attributes, and it is resolved to the
-- declaration of a ring that names the type.
pub record IsItemOf (t of : Turn) (x type : List ℕ) (d : DeclaredItem) : Type 0 where
  pub text : d.ident.text ≡ x
  pub count : length (type_parameters d.generics) ≡ parameters t
  pub derivable : (others : List AttributeItem) → first_other (attributes_in d ++ others) ≡ first_other others
  pub resolves : (ds : List DeclaredItem) (j : ℕ) → IsPlaced ds of type j
      → resolved_among empty_configuration ds d ≡ Some (record { name = x; parameters = parameters t; annotations = unannotated; body = body t (named j (arguments of)) })

-- The words are read as such an item, and the rest, which is shorter, follows.
pub record ReadsItem (t of : Turn) (x type : List ℕ) (ws rest : List Word) : Type 0 where
  pub item : DeclaredItem
  pub is : IsItemOf t of x type item
  pub read : item_at within_levels ws ≡ Ok (Some item, rest)
  pub shorter : length rest < length ws

plain_read : (of : Turn) (x type : List ℕ) → IsKnown plain_struct x → IsKnown of type → (a b c : Span) (at : ℕ) (ws rest : List Word)
    → ws ≡ struct_word a ∷ word_at x b ∷ group Curly (trees_at at (members_spelling plain_struct of type)) c ∷ rest → ReadsItem plain_struct of x type ws rest
plain_read of x type own known a b c at ws rest e =
    let fields = fields_inside plain_struct of type known at in
    let braces : Trees = trees_at at (members_spelling plain_struct of type) in
    let read = ap (item_at within_levels) (e ∙ ap (λ w. struct_word a ∷ w ∷ group Curly braces c ∷ rest) (own.word b)) ∙ plain_item x a b c braces rest fields.0 fields.1.read in
    record {
      item = _;
      is = record {
        text = refl;
        count = refl;
        derivable = λ others. rw fields.1.bare refl;
        resolves = λ ds j placed. rw (fields.1.bare, fields.1.form ds x no_span j placed) refl;
      };
      read = read;
      shorter = omega (arith, ap length e);
    }

generic_read : (of : Turn) (x type : List ℕ) → IsKnown generic_struct x → IsKnown of type → (a b c d f g : Span) (at : ℕ) (ws rest : List Word)
    → ws ≡ struct_word a ∷ word_at x b ∷ sign Less c ∷ called (codes "T") d ∷ sign Greater f ∷ group Curly (trees_at at (members_spelling generic_struct of type)) g ∷ rest → ReadsItem generic_struct of x type ws rest
generic_read of x type own known a b c d f g at ws rest e =
    let fields = fields_inside generic_struct of type known at in
    let braces : Trees = trees_at at (members_spelling generic_struct of type) in
    let named = ap (λ w. struct_word a ∷ w ∷ sign Less c ∷ called (codes "T") d ∷ sign Greater f ∷ group Curly braces g ∷ rest) (own.word b) in
    let read = ap (item_at within_levels) (e ∙ named) ∙ generic_item x a b c d f g braces rest fields.0 fields.1.read in
    record {
      item = _;
      is = record {
        text = refl;
        count = refl;
        derivable = λ others. rw fields.1.bare refl;
        resolves = λ ds j placed. rw (fields.1.bare, fields.1.form ds x d j placed) refl;
      };
      read = read;
      shorter = omega (arith, ap length e);
    }

tagged_read : (of : Turn) (x type : List ℕ) → IsKnown tagged_enum x → IsKnown of type → (a b c d f h g k m n p q r s : Span) (at : ℕ) (inside : Trees) (ws rest : List Word)
    → words_of inside ≡ called (codes "A") p ∷ sign Comma q ∷ called (codes "B") r ∷ group Curly (trees_at at (members_spelling tagged_enum of type)) s ∷ []
    → ws ≡ sign Hash h ∷ group Square (attribute_trees a b c d f) g ∷ enum_word k ∷ word_at x m ∷ group Curly inside n ∷ rest → ReadsItem tagged_enum of x type ws rest
unfolding path_item
tagged_read of x type own known a b c d f h g k m n p q r s at inside ws rest variants e =
    let fields = fields_inside tagged_enum of type known at in
    let braces : Trees = trees_at at (members_spelling tagged_enum of type) in
    let named = ap (λ w. sign Hash h ∷ group Square (attribute_trees a b c d f) g ∷ enum_word k ∷ w ∷ group Curly inside n ∷ rest) (own.word m) in
    let found = ap read_variants variants ∙ variants_read p q r s braces fields.0 fields.1.read in
    let read = ap (item_at within_levels) (e ∙ named) ∙ tagged_item x a b c d f h g k m n inside rest (sample_variants p q r s braces fields.0) found in
    record {
      item = _;
      is = record {
        text = refl;
        count = refl;
        derivable = λ others. rw fields.1.bare refl;
        resolves = λ ds j placed. rw (fields.1.bare, fields.1.form ds x no_span j placed) refl;
      };
      read = read;
      shorter = omega (arith, ap length e);
    }

-- each declaration is read so
pub item_read : (t of : Turn) (x type : List ℕ) → IsKnown t x → IsKnown of type → (at : ℕ) (rest : Spelling)
    → (behind : ℕ) × ReadsItem t of x type (words_of (trees_at at (declaration_spelling t x of type rest))) (words_of (trees_at behind rest))
unfolding keyword_of is_reserved sign_of
item_read plain_struct of x type own known at rest = (_, plain_read of x type own known _ _ _ _ _ _ refl)
item_read generic_struct of x type own known at rest = (_, generic_read of x type own known _ _ _ _ _ _ _ _ _ refl)
item_read tagged_enum of x type own known at rest = (_, tagged_read of x type own known _ _ _ _ _ _ _ _ _ _ _ _ _ _ _ _ _ _ refl refl)

-- Where a tag cannot stand: among the elements of several fields or of a tuple, or in the unit, and beside what has its own name (serde.rs, "Enum representations"; of a single tuple or unit this is a rule of its own, docs/SERDE.md).
use Rattle.std.specs.Prelude.{◌≡◌, ◌⊎◌, ℕ, List, [], ◌∷◌, Bool, true, false, not, ◌&&◌, Option, Some, None, codes}
use Rattle.std.specs.Str.{bytes_eq}
use Rattle.diag.specs.Refusal.{IsRefusal, IsHelpRefusal}
use Rattle.diag.specs.declared.error.DeriveError.{DeriveError}
use Rattle.diag.specs.declared.kind.Kind.TheVariants.{DuplicateName, TaggedTuple}
use Rattle.texts.specs.Names.{is_in}
use Rattle.scopes.specs.Names.{duplicate_message}
use Rattle.syntax.specs.Items.{VariantItem}
use Rattle.open_types.specs.Open.{Open}
use Rattle.open_types.specs.Open as types
use Rattle.shapes.specs.declared.tagging.Tagging.{Tagging}
use Rattle.shapes.specs.declared.tagging.Tagging.TheVariants.{External, Internal, Adjacent, Untagged}
use Rattle.shapes.specs.Declarations.{FormOf, named_fields, unnamed_fields, member_names, names_beside}

-- a tuple, or the unit
abbrev pub is_tuple : Open → Bool
is_tuple types.unit = true
is_tuple (types.tuple ts) = true
is_tuple _ = false

-- An internal tag cannot stand among several unnamed fields, nor in a tuple or the unit. No other type is looked into, but a reference is what it refers to, and no other tag is asked.
abbrev pub can_be_tagged : Tagging → FormOf → Bool
can_be_tagged (Internal tag) (unnamed_fields (t ∷ [])) = not (is_tuple t)
can_be_tagged (Internal tag) (unnamed_fields (t ∷ u ∷ us)) = false
can_be_tagged _ _ = true

-- the tag has the name of a member beside it, or of the content
abbrev pub tag_is_taken : Tagging → FormOf → Bool
tag_is_taken (Internal tag) (named_fields b ms) = is_in tag (names_beside b.flattened (member_names ms))
tag_is_taken (Adjacent tag content) (named_fields b ms) = bytes_eq tag content
tag_is_taken (Adjacent tag content) (unnamed_fields ts) = bytes_eq tag content
tag_is_taken _ _ = false

-- the tag can stand beside a variant's fields of this form
abbrev pub tag_stands : Tagging → FormOf → Bool
tag_stands tagging form = can_be_tagged tagging form && not (tag_is_taken tagging form)

-- the tag; none where there is none
abbrev pub tag_of : Tagging → Option (List ℕ)
tag_of (Internal tag) = Some tag
tag_of (Adjacent tag content) = Some tag
tag_of External = None
tag_of Untagged = None

abbrev pub tuple_message : List ℕ
tuple_message = codes "Unnamed (tuple) enum variants are unsupported for internally tagged enums using the `tag = ` serde attribute"

abbrev pub tuple_help : List ℕ
tuple_help = codes "Try using a different serde enum representation"

-- the error refuses the variant, whose fields have this form, since its tag cannot stand there
abbrev pub IsMisplacedTag : Tagging → VariantItem → FormOf → DeriveError → Type 0
IsMisplacedTag tagging v form e =
    ((can_be_tagged tagging form ≡ false) × IsHelpRefusal TaggedTuple v.span tuple_message tuple_help e)
    ⊎ ((tag_is_taken tagging form ≡ true) × ((tag : List ℕ) × (tag_of tagging ≡ Some tag) × IsRefusal DuplicateName v.ident.span (duplicate_message tag) e))

-- What is said of the types of fields (The Rust Reference, "Paths", "Types"). Of names, those of structs with one unnamed field are looked up; aliases and type parameters are not.
use Rattle.std.specs.Prelude.{ℕ, List, [], ◌∷◌, Bool, true, false, not, cond, ◌&&◌, codes, bytes_eq}
use Rattle.std.specs.Option.{option_map_or}
use Rattle.texts.specs.declared.span.Span.{Span}
use Rattle.leaves.specs.Leaves.{leaf_of, kind_of}
use Rattle.leaves.specs.declared.leaf.LeafKind.{LeafKind}
use Rattle.leaves.specs.declared.leaf.LeafKind.TheVariants.{Text, Boolean, Signed, Unsigned, Float}
use Rattle.written_types.specs.Written.{Written, path, reference, tuple, slice, array, trait_object, path_of}
use Rattle.syntax.specs.Items.{DeclaredItem}
use Rattle.warnings.specs.Rules.{WarningItem, warning_at}
use Rattle.warnings.specs.Through.{last_name, first_argument, through}
use Rattle.warnings.specs.declared.through.Role.TheVariants.{Key, Member}
use Rattle.warnings.specs.declared.through.TheConstants.{DEPTH}
use Rattle.warnings.specs.declared.types.TheConstants.{NONE_WHERE_MISSING, MISSING_IS_NULL}

-- the bytes of a type without the references around it
abbrev pub span_of : Written → Span
span_of (path (path_of leading ss s)) = s
span_of (reference t) = span_of t
span_of (tuple ts s) = s
span_of (slice t s) = s
span_of (array t s) = s
span_of (trait_object p s) = s

abbrev pub maps : List (List ℕ)
maps = codes "HashMap" ∷ codes "BTreeMap" ∷ codes "Map" ∷ codes "IndexMap" ∷ []

abbrev pub is_no_text : LeafKind → Bool
is_no_text Text = false
is_no_text Boolean = true
is_no_text Signed = true
is_no_text Unsigned = true
is_no_text Float = true

-- the name of a number, or of the truth values
abbrev pub is_number : List ℕ → Bool
is_number name = option_map_or (λ leaf. is_no_text (kind_of leaf)) (leaf_of name) false

abbrev pub is_number_type : Written → Bool
is_number_type t = option_map_or is_number (last_name t) false

-- a key that stands for a number or a truth value
abbrev pub is_number_key : List DeclaredItem → Written → Bool
is_number_key ds key = is_number_type (through Key ds DEPTH key)

abbrev pub is_option : Written → Bool
is_option t = option_map_or (λ name. bytes_eq name (codes "Option")) (last_name t) false

-- no `Option`, but it stands for one
abbrev pub holds_option : List DeclaredItem → Written → Bool
holds_option ds t = not (is_option t) && is_option (through Member ds DEPTH t)

abbrev pub is_option_of_option : Written → Bool
is_option_of_option t = is_option t && option_map_or is_option (first_argument t) false

-- of the type of a member that the schema asks for or not, and whose absence is told from null or not
abbrev pub option_warnings : List DeclaredItem → (required double_option : Bool) → Written → List WarningItem
option_warnings ds required double_option t =
    cond (required && holds_option ds t) (warning_at (span_of t) NONE_WHERE_MISSING.now ∷ [])
    (cond (double_option && is_option_of_option t) (warning_at (span_of t) MISSING_IS_NULL.now ∷ []) [])

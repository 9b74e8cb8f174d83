-- What is said of flattened fields by their types (serde.rs, "Struct flattening"). serde looks through pointers and structs with one unnamed field, and aliases are what they stand for.
use Rattle.std.specs.Prelude.{ℕ, List, [], ◌∷◌, ◌++◌, Bool, true, false, not, cond, ◌&&◌, Option, Some, None, option_and_then, slice_get}
use Rattle.std.specs.List.{flat_map}
use Rattle.std.specs.Option.{option_map_or}
use Rattle.texts.specs.declared.span.Span.{Span}
use Rattle.leaves.specs.Leaves.{kind_of}
use Rattle.written_types.specs.Written.{Written, reference, Segment, plain, applied}
use Rattle.syntax.specs.Items.{DeclaredItem}
use Rattle.open_types.specs.Open.{Open, leaf, any_value, free_object, unit, tuple, items, set, map_of, option, through, param, named}
use Rattle.warnings.specs.Rules.{WarningItem, warning_at}
use Rattle.warnings.specs.Through.{last_of, first_argument, behind_some}
use Rattle.warnings.specs.Types.{span_of, is_no_text}
use Rattle.warnings.specs.Applications.{applications_in_arguments}
use Rattle.warnings.specs.Keys.{application_warnings, warnings_of_keys}
use Rattle.warnings.specs.Flat.{FlatOf, is_any, is_map, binds}
use Rattle.warnings.specs.declared.through.TheConstants.{DEPTH}
use Rattle.warnings.specs.declared.flat.TheConstants.{NO_OBJECT}
use Rattle.warnings.specs.declared.flattened.TheConstants.{NOTHING_FOR_NONE, VALUES_BIND, UNREAD_KEYS}

-- ---- what a type stands for

-- what a type stands for, if serde passes over it
abbrev pub next_type : List FlatOf → Open → Option Open
next_type fs (through h t) = Some t
next_type fs (named d ts) = option_and_then (λ f. f.content) (slice_get fs d)
next_type fs _ = None

-- what it stands for, behind all that serde passes over
abbrev pub whole : List FlatOf → Open → Open
whole fs t = behind_some (next_type fs) DEPTH t

-- ---- what its schema asks for

-- the schema of such a type asks for a member, or for no object
abbrev pub asks_members : List FlatOf → Open → Bool
asks_members fs (named d ts) = option_map_or (λ f. f.asks) (slice_get fs d) true
asks_members fs any_value = false
asks_members fs free_object = false
asks_members fs unit = false
asks_members fs (map_of h k t) = false
asks_members fs _ = true

-- what serde may leave out of a value of such a type, the schema asks for
abbrev pub asks_always : List FlatOf → Open → Bool
asks_always fs (named d ts) = asks_members fs (named d ts)
asks_always fs (param i) = true
asks_always fs _ = false

-- ---- what is said

abbrev pub message_if : Bool → List ℕ → Option (List ℕ)
message_if b text = cond b (Some text) None

-- of an option of such a type
abbrev pub option_message : List FlatOf → Open → Option (List ℕ)
option_message fs (map_of h k t) = message_if (not (is_any t)) VALUES_BIND.now
option_message fs (named d ts) = cond (asks_members fs (named d ts)) (Some NOTHING_FOR_NONE.now) (option_and_then (λ f. f.message) (slice_get fs d))
option_message fs t = message_if (asks_members fs t) NOTHING_FOR_NONE.now

-- of what a flattened type stands for
abbrev pub whole_message : List FlatOf → Open → Option (List ℕ)
whole_message fs (option t) = option_message fs (whole fs t)
whole_message fs (map_of h k t) = message_if (not (is_any t)) VALUES_BIND.now
whole_message fs (named d ts) = option_and_then (λ f. f.message) (slice_get fs d)
whole_message fs (leaf x) = Some NO_OBJECT.now
whole_message fs (tuple ts) = Some NO_OBJECT.now
whole_message fs (items h t) = Some NO_OBJECT.now
whole_message fs (set h t) = Some NO_OBJECT.now
whole_message fs _ = None

-- of a flattened type, where several fields are flattened or not; a map is that of the members that have no name of their own
abbrev pub flattened_message : List FlatOf → (several : Bool) → Open → Option (List ℕ)
flattened_message fs several t = cond (is_map t) (message_if (several && binds t) VALUES_BIND.now) (whole_message fs (whole fs t))

-- a number or a truth value
abbrev pub is_number_type : Open → Bool
is_number_type (leaf x) = is_no_text (kind_of x)
is_number_type _ = false

abbrev pub warning_if : Span → Option (List ℕ) → List WarningItem
warning_if span message = option_map_or (λ text. warning_at span text ∷ []) message []

-- a written type without the references around it
abbrev pub referred : Written → Written
referred (reference t) = referred t
referred t = t

-- the bytes of the first type argument, or else of the type
abbrev pub key_span : Written → Span
key_span t = option_map_or span_of (first_argument (referred t)) (span_of t)

-- of the keys in the arguments of a type
abbrev pub inner_warnings : List DeclaredItem → Segment → List WarningItem
inner_warnings ds (plain x) = []
inner_warnings ds (applied x args) = flat_map (application_warnings ds) (applications_in_arguments args)

abbrev pub warnings_of_inner : List DeclaredItem → Written → List WarningItem
warnings_of_inner ds t = option_map_or (inner_warnings ds) (last_of (referred t)) []

-- of the keys in a flattened map, whose own are of this type: they are names of members
abbrev pub warnings_of_map : List FlatOf → List DeclaredItem → Written → Open → List WarningItem
warnings_of_map fs ds t key = warning_if (key_span t) (message_if (is_number_type (whole fs key)) UNREAD_KEYS.now) ++ warnings_of_inner ds t

abbrev pub key_warnings_of : List FlatOf → List DeclaredItem → Written → Open → List WarningItem
key_warnings_of fs ds t (map_of h key u) = warnings_of_map fs ds t key
key_warnings_of fs ds t of = warnings_of_keys ds t

-- of a written type that stands for this
abbrev pub warnings_of_flattened_type : List FlatOf → List DeclaredItem → (several : Bool) → Written → Open → List WarningItem
warnings_of_flattened_type fs ds several t of = warning_if (span_of t) (flattened_message fs several of) ++ key_warnings_of fs ds t of

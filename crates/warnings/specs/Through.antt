-- What written types stand for to serde, which passes over references, pointers and structs with one unnamed field (serde.rs, "Serde data model", "Container attributes").
use Rattle.std.specs.Prelude.{ℕ, zero, suc, List, [], ◌∷◌, Bool, true, cond, Option, Some, None, option_map, option_and_then, unwrap_or, codes, slice_get}
use Rattle.std.specs.Option.{option_map_or}
use Rattle.texts.specs.Names.{is_in}
use Rattle.written_types.specs.Written.{Written, Segments, Segment, Arguments, path, reference, path_of, no_segments, more_segments, plain, applied, no_arguments, more_arguments, lifetime_argument, constant_argument, type_argument}
use Rattle.syntax.specs.Items.{FieldItem, unnamed, BodyItem, struct_body, DeclaredItem, declarations_view}
use Rattle.scopes.specs.declared.scope.Places.{Places}
use Rattle.scopes.specs.Names.{place_among}
use Rattle.warnings.specs.Before.{stands_before}
use Rattle.warnings.specs.declared.through.Role.{Role}
use Rattle.warnings.specs.declared.through.Role.TheVariants.{Key, Member}

-- ---- the names that written types go by

-- the segment that a path goes by
abbrev pub last_segment : Segments → Option Segment
last_segment no_segments = None
last_segment (more_segments s rest) = Some (unwrap_or (last_segment rest) s)

abbrev pub text_of : Segment → List ℕ
text_of (plain x) = x.text
text_of (applied x args) = x.text

-- the first type among the arguments
abbrev pub argument_in : Arguments → Option Written
argument_in no_arguments = None
argument_in (more_arguments (type_argument t) rest) = Some t
argument_in (more_arguments (lifetime_argument x) rest) = argument_in rest
argument_in (more_arguments (constant_argument ts) rest) = argument_in rest

abbrev pub argument_of : Segment → Option Written
argument_of (plain x) = None
argument_of (applied x args) = argument_in args

-- the segment that a type goes by, where it is a path
abbrev pub last_of : Written → Option Segment
last_of (path (path_of leading ss s)) = last_segment ss
last_of _ = None

abbrev pub last_name : Written → Option (List ℕ)
last_name t = option_map text_of (last_of t)

-- the first type argument of a type
abbrev pub first_argument : Written → Option Written
first_argument t = option_and_then argument_of (last_of t)

-- the pointers and the cell that serde passes over
abbrev pub pointers : List (List ℕ)
pointers = codes "Box" ∷ codes "Rc" ∷ codes "Arc" ∷ codes "Cow" ∷ codes "RefCell" ∷ []

-- ---- structs with one unnamed field

-- the only unnamed field of a struct
abbrev pub only_field : BodyItem → Option FieldItem
only_field (struct_body (unnamed (f ∷ []))) = Some f
only_field _ = None

-- serde passes over such a struct: at a key always, at a member that may be missing where it is `transparent`
abbrev pub is_passed_over : Role → DeclaredItem → Bool
is_passed_over Key d = true
is_passed_over Member d = stands_before d.attrs (codes "transparent")

-- the type of its field
abbrev pub content_of : Role → DeclaredItem → Option Written
content_of role d = cond (is_passed_over role d) (option_map (λ f. f.ty) (only_field d.body)) None

-- the declarations among which names are looked up
abbrev pub declarations_of : Places → List DeclaredItem
declarations_of places = declarations_view places.declarations.now

-- the first declaration of the name
abbrev pub declared : List DeclaredItem → List ℕ → Option DeclaredItem
declared ds name = option_and_then (slice_get ds) (place_among ds name)

-- ---- what types stand for

-- a pointer stands for its first type argument, a declared struct for the type of its field
abbrev pub next_of_segment : Role → List DeclaredItem → Segment → Option Written
next_of_segment role ds s =
    cond (is_in (text_of s) pointers) (argument_of s) (option_and_then (content_of role) (declared ds (text_of s)))

-- the type that a type stands for, if serde passes over it
abbrev pub next : Role → List DeclaredItem → Written → Option Written
next Key ds (reference t) = Some t
next role ds t = option_and_then (next_of_segment role ds) (last_of t)

-- what stands behind at most so many that are passed over
unfoldable pub behind_some : {A : Type 0} → (A → Option A) → ℕ → A → A
behind_some next zero x = x
behind_some next (suc left) x = option_map_or (behind_some next left) (next x) x

-- what a type stands for behind at most so many that serde passes over
abbrev pub through : Role → List DeclaredItem → ℕ → Written → Written
through role ds = behind_some (next role ds)

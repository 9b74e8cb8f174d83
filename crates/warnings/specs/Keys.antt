-- What is said of types that stand as keys: those of maps, and arguments of declared types at type parameters that the declaration uses as keys of maps.
use Rattle.std.specs.Prelude.{ℕ, List, [], ◌∷◌, ◌++◌, cond, Option, None, option_and_then, map, filter_map}
use Rattle.std.specs.Borrow.{Bor}
use Rattle.std.specs.List.{flat_map}
use Rattle.std.specs.Option.{option_map_or}
use Rattle.texts.specs.Names.{is_in}
use Rattle.written_types.specs.declared.written.Ident.{Ident}
use Rattle.written_types.specs.Written.{Written, Segment, Arguments, Argument, plain, applied, no_arguments, more_arguments, lifetime_argument, type_argument}
use Rattle.syntax.specs.Items.{DeclaredItem}
use Rattle.scopes.specs.Parameters.{parameters_of}
use Rattle.scopes.specs.declared.parameters.ParameterKind.TheVariants.{TypesAndConstants}
use Rattle.warnings.specs.Rules.{WarningItem, warning_at}
use Rattle.warnings.specs.Through.{text_of, argument_of, last_name, declared, through}
use Rattle.warnings.specs.Types.{maps, span_of, is_number_key}
use Rattle.warnings.specs.Applications.{applications_in, applications_of}
use Rattle.warnings.specs.declared.through.Role.TheVariants.{Key}
use Rattle.warnings.specs.declared.through.TheConstants.{DEPTH}
use Rattle.warnings.specs.declared.keys.TheConstants.{NO_TEXTS_AS_KEYS}

-- what the program's values are
abbrev pub names_view : List (Bor (List ℕ)) → List (List ℕ)
names_view names = map (λ name. name.now) names

-- ---- the types that stand as keys

-- the key of a map
abbrev pub map_key : Segment → Option Written
map_key s = cond (is_in (text_of s) maps) (argument_of s) None

-- the name that the key of a map stands for, which may be that of a type parameter
abbrev pub key_name : List DeclaredItem → Segment → Option (List ℕ)
key_name ds s = option_and_then (λ key. last_name (through Key ds DEPTH key)) (map_key s)

-- the names that the keys of the maps in a declaration stand for
abbrev pub key_names : List DeclaredItem → DeclaredItem → List (List ℕ)
key_names ds d = filter_map (key_name ds) (applications_of d.body)

-- the argument, if it is a type and the first of the parameters has one of the names
abbrev pub key_at : List (List ℕ) → List Ident → Argument → List Written
key_at names (x ∷ xs) (type_argument t) = cond (is_in x.text names) (t ∷ []) []
key_at names _ _ = []

-- the parameters left behind an argument; a lifetime takes none of them
abbrev pub left_behind : List Ident → Argument → List Ident
left_behind xs (lifetime_argument l) = xs
left_behind [] a = []
left_behind (x ∷ xs) a = xs

-- the arguments at parameters of these names
abbrev pub keys_at : List (List ℕ) → List Ident → Arguments → List Written
keys_at names xs no_arguments = []
keys_at names xs (more_arguments a args) = key_at names xs a ++ keys_at names (left_behind xs a) args

-- the arguments at parameters of the declaration that it uses as keys
abbrev pub keys_of_declared : List DeclaredItem → Arguments → DeclaredItem → List Written
keys_of_declared ds args d = keys_at (key_names ds d) (parameters_of TypesAndConstants d.generics) args

-- of a map its key, and of the name of a declaration the arguments that stand as keys there
abbrev pub keys_of : List DeclaredItem → Segment → List Written
keys_of ds (plain x) = []
keys_of ds (applied x args) =
    option_map_or (λ key. key ∷ []) (map_key (applied x args)) (option_map_or (keys_of_declared ds args) (declared ds x.text) [])

-- ---- what is said

-- of a key that stands for a number or a truth value
abbrev pub key_warnings : List DeclaredItem → Written → List WarningItem
key_warnings ds key = cond (is_number_key ds key) (warning_at (span_of key) NO_TEXTS_AS_KEYS.now ∷ []) []

abbrev pub application_warnings : List DeclaredItem → Segment → List WarningItem
application_warnings ds s = flat_map (key_warnings ds) (keys_of ds s)

-- of the keys in a type, at any depth
abbrev pub warnings_of_keys : List DeclaredItem → Written → List WarningItem
warnings_of_keys ds t = flat_map (application_warnings ds) (applications_in t)

-- The generic parameters that the arguments of a path name (The Rust Reference, "Paths", "Generic parameters").
use Rattle.std.specs.Prelude.{List, [], Option, Some, None, option_map}
use Rattle.std.specs.List.{cons_option}
use Rattle.written_types.specs.declared.written.Ident.{Ident}
use Rattle.written_types.specs.Written.{Written, path, reference, tuple, slice, array, trait_object, WrittenPath, path_of, Segment, plain, applied, Arguments, no_arguments, more_arguments, Argument, lifetime_argument, constant_argument, type_argument}
use Rattle.syntax.specs.Items.{ParameterItem, lifetime_parameter, type_parameter}
use Rattle.type_tree.specs.TypeTrees.{TreePath, written_path, array_path, Tree, tree, last_segment}

abbrev pub segment_ident : Segment → Ident
segment_ident (plain x) = x
segment_ident (applied x xs) = x

abbrev pub last_ident : WrittenPath → Option Ident
last_ident (path_of leading segments span) = option_map segment_ident (last_segment segments)

-- the last identifier of a path, also behind references; other types have none
abbrev pub type_ident : Written → Option Ident
type_ident (path p) = last_ident p
type_ident (reference t) = type_ident t
type_ident (tuple ts s) = None
type_ident (slice t s) = None
type_ident (array t s) = None
type_ident (trait_object p s) = None

-- a lifetime, or the name of a type
abbrev pub argument_parameter : Argument → Option ParameterItem
argument_parameter (lifetime_argument x) = Some (lifetime_parameter x)
argument_parameter (constant_argument ts) = None
argument_parameter (type_argument t) = option_map type_parameter (type_ident t)

abbrev pub argument_parameters : Arguments → List ParameterItem
argument_parameters no_arguments = []
argument_parameters (more_arguments a rest) = cons_option (argument_parameter a) (argument_parameters rest)

abbrev pub segment_parameters : Option Segment → List ParameterItem
segment_parameters None = []
segment_parameters (Some (plain x)) = []
segment_parameters (Some (applied x xs)) = argument_parameters xs

-- those of the last segment; arrays and slices have none
abbrev pub path_parameters : TreePath → List ParameterItem
path_parameters (written_path (path_of leading segments span)) = segment_parameters (last_segment segments)
path_parameters array_path = []

-- none where the tree has no path, as that of a tuple and that of the unit type
abbrev pub path_generics : Tree → Option (List ParameterItem)
path_generics (tree p s v g below) = option_map path_parameters p

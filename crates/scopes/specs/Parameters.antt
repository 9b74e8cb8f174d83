-- The generic parameters of declarations, by their kinds (The Rust Reference, "Generic parameters").
use Rattle.std.specs.Prelude.{ℕ, zero, suc, List, [], ◌∷◌, Option, Some, None, filter_map, map, length}
use Rattle.written_types.specs.declared.written.Ident.{Ident}
use Rattle.syntax.specs.Items.{ParameterItem, type_parameter, const_parameter, DeclaredItem}
use Rattle.scopes.specs.declared.parameters.ParameterKind.{ParameterKind}
use Rattle.scopes.specs.declared.parameters.ParameterKind.TheVariants as kinds

-- the parameter's identifier, where it is of the kind
abbrev pub ident_of_kind : ParameterKind → ParameterItem → Option Ident
ident_of_kind kinds.Types (type_parameter x) = Some x
ident_of_kind kinds.Constants (const_parameter x) = Some x
ident_of_kind kinds.TypesAndConstants (type_parameter x) = Some x
ident_of_kind kinds.TypesAndConstants (const_parameter x) = Some x
ident_of_kind _ _ = None

abbrev pub parameters_of : ParameterKind → List ParameterItem → List Ident
parameters_of kind ps = filter_map (ident_of_kind kind) ps

abbrev pub type_parameters : List ParameterItem → List Ident
type_parameters ps = parameters_of kinds.Types ps

-- how many type parameters each of the declarations has
abbrev pub parameter_counts : List DeclaredItem → List ℕ
parameter_counts ds = map (λ d. length (type_parameters d.generics)) ds

-- the generic parameters of the declaration at the place; past the end, none
abbrev pub generics_at : List DeclaredItem → ℕ → List ParameterItem
generics_at [] d = []
generics_at (x ∷ ds) zero = x.generics
generics_at (x ∷ ds) (suc d) = generics_at ds d

-- Where the names of a source are looked up.
use Rattle.std.specs.Prelude.{ℕ, List, [], ◌∷◌, Option, Some, None, bytes_eq, cond, length, slice_index}
use Rattle.texts.specs.Names.{is_in, place_in}
use Rattle.written_types.specs.Written.{Written}
use Rattle.configuration.specs.Configuration.{Alias, Configuration}
use Rattle.configuration.specs.Aliases.{bare}
use Rattle.syntax.specs.Items.{ParameterItem, DeclaredItem, declarations_view}
use Rattle.resolving.specs.Known.{Known}
use Rattle.scopes.specs.Names.{texts, declared_name, place_among}
use Rattle.scopes.specs.Parameters.{parameters_of, type_parameters, parameter_counts, generics_at}
use Rattle.scopes.specs.declared.parameters.ParameterKind.TheVariants.{Constants}
use Rattle.scopes.specs.declared.scope.Scope.{Scope}

-- what the name stands for as an alias: the type of the first alias of the name, without what nothing is resolved from
abbrev pub alias_in : List Alias → List ℕ → Option Written
alias_in [] name = None
alias_in (a ∷ rest) name = cond (bytes_eq name a.name) (Some (bare a.of)) (alias_in rest name)

-- the names that are known with these aliases among these declarations, in the one of the name, which has these generic parameters
abbrev pub known_among : List Alias → List DeclaredItem → List ℕ → List ParameterItem → Known
known_among aliases ds owner ps = record {
  alias_of = alias_in aliases;
  place_of = place_among ds;
  parameters_at = slice_index (parameter_counts ds);
  own = place_among ds owner;
  parameters = length (type_parameters ps);
  parameter_of = λ name. place_in name (texts (type_parameters ps));
  is_constant = λ name. is_in name (texts (parameters_of Constants ps));
}

-- the declarations of the source
abbrev pub declared_in : Scope → List DeclaredItem
declared_in scope = declarations_view scope.places.now.declarations.now

-- the generic parameters of the declaration in which the type is written
abbrev pub generics_in : Scope → List ParameterItem
generics_in scope = generics_at (declared_in scope) scope.owner

-- its name
abbrev pub name_in : Scope → List ℕ
name_in scope = declared_name (declared_in scope) scope.owner

-- how many of the parameters are types
abbrev pub parameters_in : Scope → ℕ
parameters_in scope = length (type_parameters (generics_in scope))

-- the names that are known there with the aliases of the configuration
abbrev pub known_in : Configuration → Scope → Known
known_in c scope = known_among c.aliases (declared_in scope) (name_in scope) (generics_in scope)

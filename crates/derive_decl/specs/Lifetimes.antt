-- The generic parameters of a declaration, of which none may be given twice.
use Rattle.std.specs.Prelude.{ℕ, List, [], ◌∷◌, Bool, ◌&&◌, cond, codes, take, drop}
use Rattle.std.specs.Str.{bytes_eq}
use Rattle.written_types.specs.declared.written.Ident.{Ident}
use Rattle.syntax.specs.Items.{ParameterItem, lifetime_parameter}
use Rattle.scopes.specs.Names.{texts, are_distinct}
use Rattle.scopes.specs.Parameters.{parameters_of}
use Rattle.scopes.specs.declared.parameters.ParameterKind.TheVariants.{TypesAndConstants}

-- a lifetime by its name, without its quote
abbrev pub unquoted_text : List ℕ → List ℕ
unquoted_text text = cond (bytes_eq (take 1 text) (codes "'")) (drop 1 text) text

abbrev pub unquoted : Ident → Ident
unquoted x = record { text = unquoted_text x.text; raw = x.raw; span = x.span }

-- the lifetimes among the parameters, by their names
abbrev pub lifetimes_of : List ParameterItem → List Ident
lifetimes_of [] = []
lifetimes_of (lifetime_parameter x ∷ ps) = unquoted x ∷ lifetimes_of ps
lifetimes_of (_ ∷ ps) = lifetimes_of ps

-- no type or constant parameter has the name of another, and no lifetime has
abbrev pub parameters_are_distinct : List ParameterItem → Bool
parameters_are_distinct ps = are_distinct (texts (parameters_of TypesAndConstants ps)) && are_distinct (texts (lifetimes_of ps))

-- What aliases of a configuration stand for, and what they make of a path.
use Rattle.std.specs.Prelude.{ℕ, List, [], ◌∷◌, ◌++◌, false, Option, Some, None, option_and_then, bytes_eq, cond, is_some, codes}
use Rattle.std.specs.Option.{option_or}
use Rattle.texts.specs.declared.span.Span.{Span}
use Rattle.diag.specs.Refusal.{IsRefusal}
use Rattle.diag.specs.declared.error.DeriveError.{DeriveError}
use Rattle.diag.specs.declared.kind.Kind.TheVariants.{Arity}
use Rattle.written_types.specs.Written.{Written, WrittenPath, Segment, path, path_of}
use Rattle.configuration.specs.Configuration.{Alias}
use Rattle.resolving.specs.Known.{Known}
use Rattle.resolving.specs.Names.{ident_of, names_in}
use Rattle.resolving.specs.Aliases.{expanded_type}
use Rattle.type_tree.specs.TypeTrees.{TreePath, written_path, array_path, Tree, tree, last_segment, segment_name}

-- the type of the first alias of the name, as it was read
abbrev pub alias_named : List Alias → List ℕ → Option Written
alias_named [] name = None
alias_named (a ∷ rest) name = cond (bytes_eq name a.name) (Some a.of) (alias_named rest name)

-- ---- one step

-- that of the last segment; the path of an array or a slice is no name
abbrev pub path_alias : List Alias → TreePath → Option Written
path_alias aliases (written_path (path_of leading segments span)) = option_and_then (λ s. alias_named aliases (segment_name s)) (last_segment segments)
path_alias aliases array_path = None

-- that of the path, where the tree has one
abbrev pub tree_alias : List Alias → Tree → Option Written
tree_alias aliases (tree p s v g below) = option_and_then (path_alias aliases) p

-- ---- all steps

-- what is known where there are aliases alone
abbrev pub known_aliases : List Alias → Known
known_aliases aliases = record {
  alias_of = alias_named aliases;
  place_of = λ name. None;
  parameters_at = λ d. 0;
  own = None;
  parameters = 0;
  parameter_of = λ name. None;
  is_constant = λ name. false;
}

-- the type that the path becomes
abbrev pub rewritten_path : List Alias → WrittenPath → Written
rewritten_path aliases p = expanded_type (known_aliases aliases) (path p)

-- the name and its span, where it is an alias
abbrev pub alias_at : List Alias → List ℕ → Span → Option (List ℕ × Span)
alias_at aliases name span = cond (is_some (alias_named aliases name)) (Some (name, span)) None

-- the first of the names that is an alias
abbrev pub first_alias : List Alias → List Segment → Option (List ℕ × Span)
first_alias aliases [] = None
first_alias aliases (s ∷ rest) = option_or (alias_at aliases (ident_of s).text (ident_of s).span) (first_alias aliases rest)

-- that of the names in a type: an alias with type arguments, since others are replaced
abbrev pub alias_left : List Alias → Written → Option (List ℕ × Span)
alias_left aliases t = first_alias aliases (names_in (known_aliases aliases) t)

-- the error refuses that name
abbrev pub IsRefusedAlias : List ℕ × Span → DeriveError → Type 0
IsRefusedAlias found e = IsRefusal Arity found.1 (codes "wrong number of type arguments for " ++ found.0) e

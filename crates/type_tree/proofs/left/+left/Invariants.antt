use Rattle.std.proofs.Common.{◌≡◌, drop}
use Rattle.written_types.specs.Written.{arguments_view, writtens_view}
use Rattle.resolving.specs.Names.{names_in_arguments, names_in_types}
use Rattle.type_tree.specs.Aliases.{known_aliases, first_alias}
use Rattle.type_tree.proofs.left.+left.Given as goal

-- the first of what is left is the first of the whole
abbrev pub invariant-left_in_arguments-loop-argument : goal.invariant-left_in_arguments-loop-argument
invariant-left_in_arguments-loop-argument l =
    first_alias l.config.aliases (names_in_arguments (known_aliases l.config.aliases) (arguments_view (drop l.argument-index l.arguments)))
    ≡ first_alias l.config.aliases (names_in_arguments (known_aliases l.config.aliases) (arguments_view l.arguments))

abbrev pub invariant-left_in_types-loop-ty : goal.invariant-left_in_types-loop-ty
invariant-left_in_types-loop-ty l =
    first_alias l.config.aliases (names_in_types (known_aliases l.config.aliases) (writtens_view (drop l.ty-index l.types)))
    ≡ first_alias l.config.aliases (names_in_types (known_aliases l.config.aliases) (writtens_view l.types))

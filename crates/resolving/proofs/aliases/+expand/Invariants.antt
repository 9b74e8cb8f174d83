use Rattle.std.proofs.Common.{◌≡◌, ◌+◌, ◌*◌, map, take, drop}
use Rattle.written_types.specs.Written.{written_view, path_view, segment_view, argument_view, arguments_view, writtens_view}
use Rattle.resolving.specs.Known.{known}
use Rattle.resolving.specs.Names.{sizes, arguments_size}
use Rattle.resolving.specs.Expanding.{expanded_here, argument_here, list_here, types_here}
use Rattle.resolving.proofs.Levels.{levels, path_levels, segment_levels, arguments_levels, argument_levels, types_levels, to_go}
use Rattle.resolving.proofs.aliases.+expand.Given as goal

abbrev pub decreases-expand : goal.decreases-expand
decreases-expand l = to_go l.names.now l.place (2 * levels (written_view l.ty.now) + 1)

abbrev pub decreases-expand_inside : goal.decreases-expand_inside
decreases-expand_inside l = to_go l.names.now l.place (2 * levels (written_view l.ty.now))

abbrev pub decreases-expand_path : goal.decreases-expand_path
decreases-expand_path l = to_go l.names.now l.place (2 * path_levels (path_view l.path.now) + 1)

abbrev pub decreases-expand_segment : goal.decreases-expand_segment
decreases-expand_segment l = to_go l.names.now l.place (2 * segment_levels (segment_view l.segment.now))

abbrev pub decreases-expand_list : goal.decreases-expand_list
decreases-expand_list l = to_go l.names.now l.place (2 * arguments_levels (arguments_view l.arguments.now) + 1)

abbrev pub decreases-expand_argument : goal.decreases-expand_argument
decreases-expand_argument l = to_go l.names.now l.place (2 * argument_levels (argument_view l.argument.now))

abbrev pub decreases-expand_types : goal.decreases-expand_types
decreases-expand_types l = to_go l.names.now l.place (2 * types_levels (writtens_view l.types.now) + 2)

-- what is expanded, and what is left after it and the rest
abbrev pub invariant-expand_list-loop-argument : goal.invariant-expand_list-loop-argument
invariant-expand_list-loop-argument l =
    (map argument_view l.expanded ≡ map (λ a. argument_here (known l.names) l.place (argument_view a)) (take l.argument-index l.arguments))
    × (l.left + arguments_size (known l.names) (list_here (known l.names) l.place (arguments_view (drop l.argument-index l.arguments)))
    ≡ l.rest + arguments_size (known l.names) (list_here (known l.names) l.place (arguments_view l.arguments)))

abbrev pub invariant-expand_types-loop-ty : goal.invariant-expand_types-loop-ty
invariant-expand_types-loop-ty l =
    (map written_view l.expanded ≡ map (λ t. expanded_here (known l.names) l.place (written_view t)) (take l.ty-index l.types))
    × (l.left + sizes (known l.names) (types_here (known l.names) l.place (writtens_view (drop l.ty-index l.types)))
    ≡ l.rest + sizes (known l.names) (types_here (known l.names) l.place (writtens_view l.types)))

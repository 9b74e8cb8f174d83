use Rattle.std.proofs.Common.{◌≡◌, drop}
use Rattle.written_types.specs.Written.{arguments_view, writtens_view}
use Rattle.open_types.specs.Open.{opens_view}
use Rattle.resolving.specs.Known.{known}
use Rattle.resolving.specs.Resolved.{argument_types, all_types}
use Rattle.resolving.proofs.Counted.{after}
use Rattle.resolving.proofs.resolve.+resolve.Given as goal

abbrev pub invariant-resolve_arguments-loop-argument : goal.invariant-resolve_arguments-loop-argument
invariant-resolve_arguments-loop-argument l =
    argument_types (known l.names) (arguments_view l.arguments) ≡ after (opens_view l.types) (argument_types (known l.names) (arguments_view (drop l.argument-index l.arguments)))

abbrev pub invariant-resolve_types-loop-ty : goal.invariant-resolve_types-loop-ty
invariant-resolve_types-loop-ty l =
    all_types (known l.names) (writtens_view l.types) ≡ after (opens_view l.resolved) (all_types (known l.names) (writtens_view (drop l.ty-index l.types)))

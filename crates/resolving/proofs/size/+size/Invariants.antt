use Rattle.std.proofs.Common.{◌≡◌, ◌+◌, drop}
use Rattle.written_types.specs.Written.{arguments_view, writtens_view}
use Rattle.resolving.specs.Names.{arguments_size, sizes}
use Rattle.resolving.proofs.size.+size.Given as goal
use Rattle.resolving.specs.Known.{known}

abbrev pub invariant-left_after_arguments-loop-argument : goal.invariant-left_after_arguments-loop-argument
invariant-left_after_arguments-loop-argument l = l.left + arguments_size (known l.names) (arguments_view (drop l.argument-index l.arguments)) ≡ l.rest + arguments_size (known l.names) (arguments_view l.arguments)

abbrev pub invariant-left_after_types-loop-ty : goal.invariant-left_after_types-loop-ty
invariant-left_after_types-loop-ty l = l.left + sizes (known l.names) (writtens_view (drop l.ty-index l.types)) ≡ l.rest + sizes (known l.names) (writtens_view l.types)

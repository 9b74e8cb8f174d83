use Rattle.std.proofs.Common.{◌≡◌, drop}
use Rattle.written_types.specs.Written.{arguments_view}
use Rattle.resolving.specs.Known.{known}
use Rattle.resolving.specs.Names.{types_of}
use Rattle.resolving.specs.Aliases.{are_none}
use Rattle.resolving.proofs.aliases.hold_types.Given as goal

abbrev pub invariant-loop-argument : goal.invariant-loop-argument
invariant-loop-argument l = are_none (types_of (known l.names) (arguments_view l.arguments)) ≡ are_none (types_of (known l.names) (arguments_view (drop l.argument-index l.arguments)))

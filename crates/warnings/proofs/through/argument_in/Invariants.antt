use Rattle.std.proofs.Common.{◌≡◌, drop}
use Rattle.written_types.specs.Written.{arguments_view}
use Rattle.warnings.specs.Through.{argument_in}
use Rattle.warnings.proofs.through.argument_in.Given as goal

-- the first type among what is left is that of the whole
abbrev pub invariant-loop-argument : goal.invariant-loop-argument
invariant-loop-argument l = argument_in (arguments_view (drop l.argument-index l.arguments)) ≡ argument_in (arguments_view l.arguments)

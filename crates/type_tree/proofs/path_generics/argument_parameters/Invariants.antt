use Rattle.std.proofs.Common.{◌≡◌, ◌++◌, drop, map}
use Rattle.written_types.specs.Written.{arguments_view}
use Rattle.syntax.specs.Items.{parameter_view}
use Rattle.type_tree.specs.PathGenerics.{argument_parameters}
use Rattle.type_tree.proofs.path_generics.argument_parameters.Given as goal

-- those so far, and those of the arguments that are left
abbrev pub invariant-loop-argument : goal.invariant-loop-argument
invariant-loop-argument l = map parameter_view l.params ++ argument_parameters (arguments_view (drop l.argument-index l.arguments)) ≡ argument_parameters (arguments_view l.arguments)

use Rattle.std.proofs.Common.{◌≡◌, drop}
use Rattle.written_types.specs.Written.{arguments_view}
use Rattle.resolving.specs.Bad.{arguments_hold_bad}
use Rattle.resolving.proofs.bad.+bad.Given as goal

-- what is left holds one where the whole does
abbrev pub invariant-arguments_hold_bad-loop-argument : goal.invariant-arguments_hold_bad-loop-argument
invariant-arguments_hold_bad-loop-argument l = arguments_hold_bad (arguments_view (drop l.argument-index l.arguments)) ≡ arguments_hold_bad (arguments_view l.arguments)

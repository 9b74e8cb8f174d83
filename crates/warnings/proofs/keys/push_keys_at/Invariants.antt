use Rattle.std.proofs.Common.{◌≡◌, ◌++◌, map, drop}
use Rattle.std.specs.List.{flat_map}
use Rattle.written_types.specs.Written.{arguments_view}
use Rattle.warnings.specs.Through.{declarations_of}
use Rattle.warnings.specs.Rules.{warning_view}
use Rattle.warnings.specs.Keys.{names_view, keys_at, key_warnings}
use Rattle.warnings.proofs.keys.push_keys_at.Given as goal

-- the warnings so far, and those of what is left
abbrev pub invariant-loop-argument : goal.invariant-loop-argument
invariant-loop-argument l =
    map warning_view l.warnings ++ flat_map (key_warnings (declarations_of l.places)) (keys_at (names_view l.names) l.left (arguments_view (drop l.argument-index l.arguments)))
    ≡ map warning_view l.initial.warnings ++ flat_map (key_warnings (declarations_of l.places)) (keys_at (names_view l.names) l.parameters (arguments_view l.arguments))

use Rattle.std.proofs.Common.{◌≡◌, map, take}
use Rattle.std.specs.BTreeMap.{get_by_text}
use Rattle.std.specs.List.{filter_map}
use Rattle.written_types.specs.Written.{written_view}
use Rattle.configuration.specs.Aliases.{last_names}
use Rattle.configuration.proofs.targets.targets_of.Given as goal

abbrev pub invariant-loop-ty : goal.invariant-loop-ty
invariant-loop-ty l = l.targets ≡ map (λ t. filter_map (get_by_text l.places) (last_names (written_view t))) (take l.ty-index l.types)

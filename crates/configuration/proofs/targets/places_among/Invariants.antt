use Rattle.std.proofs.Common.{◌≡◌, ◌++◌, drop}
use Rattle.std.specs.BTreeMap.{get_by_text}
use Rattle.std.specs.List.{filter_map}
use Rattle.configuration.proofs.targets.places_among.Given as goal

-- the places so far, and those of the names that are left, are those of all
abbrev pub invariant-loop-name : goal.invariant-loop-name
invariant-loop-name l = l.found ++ filter_map (get_by_text l.places) (drop l.name-index l.names) ≡ filter_map (get_by_text l.places) l.names

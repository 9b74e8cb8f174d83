use Rattle.std.proofs.Common.{◌≡◌, ◌++◌, filter_map, drop}
use Rattle.warnings.specs.Through.{declarations_of}
use Rattle.warnings.specs.Applications.{applications_view}
use Rattle.warnings.specs.Keys.{names_view, key_name}
use Rattle.warnings.proofs.keys.key_names.Given as goal

-- the names so far, and those of what is left
abbrev pub invariant-loop-application : goal.invariant-loop-application
invariant-loop-application l = names_view l.names ++ filter_map (key_name (declarations_of l.places)) (applications_view (drop l.application-index l.application-items)) ≡ filter_map (key_name (declarations_of l.places)) (applications_view l.application-items)

use Rattle.std.proofs.Common.{◌≡◌, ◌++◌, map, take}
use Rattle.std.specs.List.{flat_map}
use Rattle.warnings.specs.Through.{declarations_of}
use Rattle.warnings.specs.Rules.{warning_view}
use Rattle.warnings.specs.Applications.{applications_view}
use Rattle.warnings.specs.Keys.{application_warnings}
use Rattle.warnings.proofs.keys.push_applications.Given as goal

abbrev pub invariant-loop-application : goal.invariant-loop-application
invariant-loop-application l = map warning_view l.warnings ≡ map warning_view l.initial.warnings ++ flat_map (application_warnings (declarations_of l.places)) (applications_view (take l.application-index l.applications))

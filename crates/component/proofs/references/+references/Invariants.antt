use Rattle.std.proofs.Common.{◌≡◌, ◌++◌, map, drop}
use Rattle.open_types.specs.Open.{opens_view}
use Rattle.component.specs.References.{reference_view, item_references}
use Rattle.component.proofs.references.+references.Given as goal

-- what is found, and what is still to come, is all of it
abbrev pub invariant-push_item_references-loop-ty : goal.invariant-push_item_references-loop-ty
invariant-push_item_references-loop-ty l =
    map reference_view l.found ++ item_references (opens_view (drop l.ty-index l.types)) ≡ map reference_view l.initial.found ++ item_references (opens_view l.types)

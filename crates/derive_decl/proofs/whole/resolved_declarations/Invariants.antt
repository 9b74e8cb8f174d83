use Rattle.std.proofs.Common.{◌≡◌, map, take, Some}
use Rattle.syntax.specs.Items.{declaration_view, declarations_view}
use Rattle.derive_decl.specs.Resolved.{all_of}
use Rattle.shapes.specs.Views.{declaration_view as resolved_view}
use Rattle.derive_decl.proofs.whole.resolved_declarations.Given as goal
use Rattle.derive_decl.specs.Whole.{resolved_among}

-- the declarations so far are resolved
abbrev pub invariant-loop-owner : goal.invariant-loop-owner
invariant-loop-owner l =
    all_of (resolved_among l.config (declarations_view l.places.declarations.now)) (map declaration_view (take l.owner l.places.declarations.now.items)) ≡ Some (map resolved_view l.resolved)

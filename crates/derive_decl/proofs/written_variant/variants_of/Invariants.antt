use Rattle.std.proofs.Common.{◌≡◌, ◌++◌, map}
use Rattle.shapes.specs.Views.{variant_view}
use Rattle.derive_decl.specs.Views.{written_variant_view}
use Rattle.derive_decl.proofs.written_variant.variants_of.Given as goal

-- the variants so far are those that were taken, and the others are left
abbrev pub invariant-loop-variant : goal.invariant-loop-variant
invariant-loop-variant l =
    (map variant_view l.variants ≡ map written_variant_view l.yielded)
    × (l.yielded ++ l.variant-iterator.rest.items ≡ l.initial.variant-iterator.rest.items)

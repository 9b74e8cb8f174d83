use Rattle.std.proofs.Common.{◌≡◌, ◌++◌, drop, map}
use Rattle.std.specs.List.{flat_map}
use Rattle.syntax.specs.Items.{VariantItem, variant_view}
use Rattle.derive_decl.specs.Attributed.{attributes_on, first_other}
use Rattle.derive_decl.proofs.attributed.first_on_variants.Given as goal

abbrev pub invariant-loop-variant : goal.invariant-loop-variant
invariant-loop-variant l = first_other (flat_map (λ (v : VariantItem). v.attrs ++ attributes_on v.fields) (map variant_view (drop l.variant-index l.variants))) ≡ first_other (flat_map (λ (v : VariantItem). v.attrs ++ attributes_on v.fields) (map variant_view l.variants))

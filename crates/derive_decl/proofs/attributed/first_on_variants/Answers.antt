use Rattle.std.proofs.Common.{◌≡◌, ◌++◌, List, ◌∷◌, Option, map, refl}
use Rattle.std.specs.List.{flat_map}
use Rattle.std.specs.Option.{option_or}
use Rattle.derive_decl.specs.declared.feature.Other.{Other}
use Rattle.attributes.specs.Attributes.{AttributeItem}
use Rattle.syntax.specs.declared.item.Variant.{Variant}
use Rattle.syntax.specs.Items.{VariantItem, variant_view}
use Rattle.derive_decl.specs.Attributed.{attributes_on, first_other}
use Rattle.derive_decl.proofs.First.{first-parts, first_here, first_later}
use Rattle.derive_decl.proofs.attributed.first_on_variants.Goals as goal

abbrev parts : List Variant → List AttributeItem
parts variants = flat_map (λ (v : VariantItem). v.attrs ++ attributes_on v.fields) (map variant_view variants)

abbrev part : Variant → List AttributeItem
part variant = (variant_view variant).attrs ++ attributes_on (variant_view variant).fields

abbrev first : List Variant → Option Other
first variants = first_other (parts variants)

abbrev one : Variant → Option Other
one variant = first_other (part variant)

split : (x : Variant) (xs : List Variant) → first (x ∷ xs) ≡ option_or (one x) (first xs)
split = first-parts parts part (λ x xs. refl)

pub returns-in-Some : goal.returns-in-Some
returns-in-Some c =
    first_here first one split c.args.variants.now c.loop-variant.variant-index c.variant-item.result c.first_on_variant.result c.in-Some.other c.loop-variant-test.true c.variant-item.is
    c.first_on_variant.ensures c.in-Some.is c.loop-variant.invariant

pub loop-variant-preserved : goal.loop-variant-preserved
loop-variant-preserved c =
    first_later first one split c.args.variants.now c.loop-variant.variant-index c.variant-item.result c.first_on_variant.result c.loop-variant-test.true c.variant-item.is
    c.first_on_variant.ensures c.in_default.is c.loop-variant.invariant

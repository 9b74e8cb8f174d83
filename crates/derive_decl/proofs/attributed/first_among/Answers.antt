use Rattle.std.proofs.Common.{◌≡◌, List, ◌∷◌, Option, map, refl}
use Rattle.std.specs.Option.{option_or}
use Rattle.derive_decl.specs.declared.feature.Other.{Other}
use Rattle.attributes.specs.Attributes.{AttributeItem}
use Rattle.syntax.specs.declared.item.Declaration.{Declaration}
use Rattle.syntax.specs.Items.{declaration_view}
use Rattle.derive_decl.specs.Attributed.{attributes_in, attributes_among, first_other}
use Rattle.derive_decl.proofs.First.{first-parts, first_here, first_later}
use Rattle.derive_decl.proofs.attributed.first_among.Goals as goal

abbrev parts : List Declaration → List AttributeItem
parts declarations = attributes_among (map declaration_view declarations)

abbrev part : Declaration → List AttributeItem
part declaration = attributes_in (declaration_view declaration)

abbrev first : List Declaration → Option Other
first declarations = first_other (parts declarations)

abbrev one : Declaration → Option Other
one declaration = first_other (part declaration)

split : (x : Declaration) (xs : List Declaration) → first (x ∷ xs) ≡ option_or (one x) (first xs)
split = first-parts parts part (λ x xs. refl)

pub returns-in-Some : goal.returns-in-Some
returns-in-Some c =
    first_here first one split c.args.declarations.now c.loop-declaration.declaration-index c.declaration-item.result c.first_in.result c.in-Some.other c.loop-declaration-test.true c.declaration-item.is
    c.first_in.ensures c.in-Some.is c.loop-declaration.invariant

pub loop-declaration-preserved : goal.loop-declaration-preserved
loop-declaration-preserved c =
    first_later first one split c.args.declarations.now c.loop-declaration.declaration-index c.declaration-item.result c.first_in.result c.loop-declaration-test.true c.declaration-item.is
    c.first_in.ensures c.in_default.is c.loop-declaration.invariant

use Rattle.std.proofs.Common.{◌≡◌, ◌∙◌, map, true, false, sym}
use Rattle.std.proofs.lemmas.Result.{IfErr-weaker}
use Rattle.syntax.specs.Items.{variant_view}
use Rattle.shapes.specs.Views.{body_view}
use Rattle.derive_decl.specs.Variants.{are_units}
use Rattle.derive_decl.specs.Views.{items_of, known}
use Rattle.derive_decl.proofs.BodyLaws.{units_enum, mixed_enum}
use Rattle.derive_decl.proofs.EnumLaws.{plain_faulty}
use Rattle.derive_decl.proofs.enums.enum_body.Goals as goal

-- ---- no variant has fields

pub returns-then-are_units-clause-refused : goal.returns-then-are_units-clause-refused
returns-then-are_units-clause-refused c =
    let root = c.args.root.now in
    IfErr-weaker c.plain_body.result _ _ (plain_faulty (known root.container.now) (items_of root) root.ident.now (map variant_view c.args.variants.now)) c.plain_body.ensures.refused

pub returns-then-are_units-clause-body : goal.returns-then-are_units-clause-body
returns-then-are_units-clause-body c =
    let root = c.args.root.now in
    let vs = map variant_view c.args.variants.now in
    let units : are_units vs ≡ true = sym c.are_units.ensures ∙ c.if-are_units.true in
    units_enum body_view c.plain_body.result (known root.container.now) (items_of root) vs units c.plain_body.ensures.body

-- ---- a variant has fields

pub returns-clause-body : goal.returns-clause-body
returns-clause-body c =
    let root = c.args.root.now in
    let vs = map variant_view c.args.variants.now in
    let mixed : are_units vs ≡ false = sym c.are_units.ensures ∙ c.if-are_units.false in
    mixed_enum body_view c.mixed_body.result (known root.container.now) (items_of root) vs mixed c.mixed_body.ensures.body

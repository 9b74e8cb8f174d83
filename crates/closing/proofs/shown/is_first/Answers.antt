use Rattle.std.proofs.Common.{◌≡◌, ◌∙◌, get_or, map, inl, inr, ap, sym, arith}
use Rattle.std.proofs.lemmas.Bool.{eqb-true, eq-eqb, false≢true}
use Rattle.shapes.specs.Declarations.{parameters_in}
use Rattle.shapes.specs.Views.{declaration_view}
use Rattle.shapes.specs.declared.declaration.Declaration.{Declaration}
use Rattle.open_types.specs.Instances.{declared_place}
use Rattle.instances.specs.Lists.{instance_at}
use Rattle.closing.proofs.LinkTerms.{place-within, own-parameters, is-root, root-has}
use Rattle.closing.proofs.shown.is_first.Goals as goal

pub offset_bounds-declared-declaration : goal.offset_bounds-declared-declaration
offset_bounds-declared-declaration c =
    let within = place-within declaration_view c.args.declared.now c.args.reach.now c.args.number c.reachable_fit.ensures c.requires.fitting c.requires.instances c.requires.number in
    omega (arith, within, c.declaration.ensures)

pub bounds-declared-declaration : goal.bounds-declared-declaration
bounds-declared-declaration c =
    let within = place-within declaration_view c.args.declared.now c.args.reach.now c.args.number c.reachable_fit.ensures c.requires.fitting c.requires.instances c.requires.number in
    omega (arith, within, c.declaration.ensures)

pub bounds-declared-declaration-else-all : goal.bounds-declared-declaration-else-all
bounds-declared-declaration-else-all c =
    let within = place-within declaration_view c.args.declared.now c.args.reach.now c.args.number c.reachable_fit.ensures c.requires.fitting c.requires.instances c.requires.number in
    omega (arith, within, c.declaration.ensures)

pub returns-else-all : goal.returns-else-all
returns-else-all c =
    let declared = c.args.declared.now in
    let is = c.args.reach.now in
    let n = c.args.number in
    let found = get_or declared c.declaration.result c.index-declared-declaration.result in
    let has : found.parameters ≡ parameters_in (map declaration_view declared) (declared_place (instance_at is n)) =
    ap (λ (d : Declaration). d.parameters) (sym c.index-declared-declaration.is)
    ∙ own-parameters declaration_view declared is n c.reachable_fit.ensures c.requires.fitting c.requires.instances c.requires.number c.declaration.result c.index-declared-declaration.result c.declaration.ensures c.index-declared-declaration.is in (
      λ none. inr (is-root declaration_view declared is n c.reachable_fit.ensures c.requires.fitting c.requires.instances c.requires.number (sym has ∙ eqb-true found.parameters 0 none)),
      λ first. elim first [
        | inl all ↦ absurd (false≢true (sym c.if-all.false ∙ all))
        | inr root ↦ eq-eqb found.parameters 0 (has ∙ root-has declaration_view declared is n c.reachable_fit.ensures c.requires.fitting c.requires.instances c.requires.number root.0 root.1 root.2)
      ],
    )

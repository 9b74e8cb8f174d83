use Rattle.std.proofs.Common.{◌≡◌, ◌∙◌, IfOk, ap, sym, subst, arith}
use Rattle.schema_trees.specs.Schema.{bind}
use Rattle.open_types.specs.Open.{opens_view}
use Rattle.component.specs.Leaves.{term_view}
use Rattle.terms.specs.InstanceTerms.{with_arguments}
use Rattle.shapes.specs.Views.{declaration_view}
use Rattle.closing.proofs.LinkTerms.{place-within, own-term, without-arguments}
use Rattle.closing.proofs.links.term_of.Goals as goal

pub offset_bounds-declared-declaration : goal.offset_bounds-declared-declaration
offset_bounds-declared-declaration c =
    let within = place-within declaration_view c.args.declared.now c.args.reach.now c.args.number c.reachable_fit.ensures c.requires.fitting c.requires.instances c.requires.number in
    omega (arith, within, c.declaration.ensures)

pub bounds-declared-declaration : goal.bounds-declared-declaration
bounds-declared-declaration c =
    let within = place-within declaration_view c.args.declared.now c.args.reach.now c.args.number c.reachable_fit.ensures c.requires.fitting c.requires.instances c.requires.number in
    omega (arith, within, c.declaration.ensures)

pub returns-then-is_empty : goal.returns-then-is_empty
returns-then-is_empty c =
    let none = c.is_empty.ensures.0 c.if-is_empty.true in
    c.in_ok-term.ensures
    ∙ own-term declaration_view c.args.declared.now c.args.reach.now c.args.number c.reachable_fit.ensures c.requires.fitting c.requires.instances c.requires.number c.declaration.result c.index-declared-declaration.result c.declaration.ensures c.index-declared-declaration.is
    ∙ without-arguments declaration_view c.args.declared.now c.args.reach.now c.args.number c.reachable_fit.ensures c.requires.fitting c.requires.instances c.requires.number c.root_terms.ensures (sym c.in_ok-arguments.ensures ∙ ap opens_view none)

pub returns : goal.returns
returns c =
    let arguments = ap opens_view c.as_slice.ensures ∙ c.in_ok-arguments.ensures in
    let own =
    c.in_ok-term.ensures
    ∙ own-term declaration_view c.args.declared.now c.args.reach.now c.args.number c.reachable_fit.ensures c.requires.fitting c.requires.instances c.requires.number c.declaration.result c.index-declared-declaration.result c.declaration.ensures c.index-declared-declaration.is in
    subst (λ s. IfOk c.filled.result (λ t. term_view t ≡ s)) (λ i. bind (with_arguments (arguments i)) (own i)) c.filled.ensures

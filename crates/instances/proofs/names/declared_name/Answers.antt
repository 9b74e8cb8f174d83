use Rattle.std.proofs.Common.{ap, sym, ◌∙◌}
use Rattle.shapes.specs.Views.{declaration_view}
use Rattle.instances.proofs.DeclaredAt.{nameless-past}
use Rattle.instances.proofs.names.declared_name.Goals as goal
use Rattle.instances.proofs.Laws.{declared-at}

pub returns-in-Some : goal.returns-in-Some
returns-in-Some c =
    let f = declaration_view in
    let found = c.in-Some.declaration.now in
    let known = c.in-Some.ensures.lookup in
    c.as_str.ensures
    ∙ ap (λ d. (f d).name) known.1
    ∙ ap (λ s. s.name) (sym (declared-at f c.args.declared.now c.args.place found known.3.0))

pub returns-in-None : goal.returns-in-None
returns-in-None c = sym (nameless-past declaration_view c.args.declared.now c.args.place c.in-None.ensures.lookup.3)

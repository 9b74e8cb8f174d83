use Rattle.std.proofs.Common.{◌∙◌, [], ◌∷◌, ◌++◌, map, take, ap, sym}
use Rattle.std.specs.List.{cons_option}
use Rattle.std.proofs.lemmas.List.{append-nil}
use Rattle.syntax.specs.Items.{parameter_view}
use Rattle.scopes.specs.Parameters.{parameters_of}
use Rattle.scopes.proofs.Given.{parameters_more}
use Rattle.scopes.proofs.parameters.parameters_of.Goals as goal
use Rattle.scopes.proofs.parameters.parameters_of.Goals.{in-Some+in_ok-copy+in_ok-push, in_default}

pub loop-param-preserved : goal.loop-param-preserved
loop-param-preserved c =
    let so_far = parameters_of c.args.kind (map parameter_view (take c.loop-param.param-index c.args.params.now)) in
    let more = parameters_more c.args.kind c.args.params.now c.loop-param.param-index c.param-item.result c.loop-param-test.true c.param-item.is in
    elim c.match-ident_of_kind.branch [
      | in-Some+in_ok-copy+in_ok-push w ↦
          w.idents-is ∙ w.in_ok-push.ensures.ok ∙ ap (λ xs. xs ++ w.in_ok-copy.field-0 ∷ []) c.loop-param.invariant ∙ ap (λ x. so_far ++ x ∷ []) w.in_ok-copy.ensures
          ∙ sym (more ∙ ap (λ o. so_far ++ cons_option o []) w.in-Some.ensures)
      | in_default w ↦ w.idents-is ∙ c.loop-param.invariant ∙ sym (more ∙ ap (λ o. so_far ++ cons_option o []) w.in_default.ensures ∙ append-nil so_far)
    ]

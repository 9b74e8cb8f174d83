use Rattle.std.proofs.Common.{◌≡◌, ◌++◌, ◌∷◌, [], ◌∙◌, ap, sym, subst, rules}
use Rattle.std.proofs.lemmas.List.{append_assoc}
use Rattle.schema_trees.specs.Schema.{schema_view}
use Rattle.schema_core.specs.Writes.{HasEntries}
use Rattle.schema_core.proofs.Parts.{bind-leaf}
use Rattle.schema_core.proofs.components.Components.to_text_by.Goals as goal

pub loop-name-preserved : goal.loop-name-preserved
loop-name-preserved c =
    let by = c.in_ok-text.text.by in
    let done = c.loop-name.invariant.0 in
    let name = c.in-Some.name.now in
    let schema = schema_view c.in-Some.schema.now in
    let here : c.loop-name.name-iterator ≡ (name, schema) ∷ c.next.new.self = search rules in (
      done ++ (name, schema) ∷ [],
      append_assoc done ((name, schema) ∷ []) c.next.new.self ∙ ap (λ left. done ++ left) (sym here) ∙ c.loop-name.invariant.1,
      subst (λ s. HasEntries by (done ++ (name, s) ∷ []) c.push.new.self) (bind-leaf schema) (c.in_ok-push.ensures by done c.loop-name.invariant.2),
    )

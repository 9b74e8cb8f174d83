use Rattle.std.proofs.Common.{◌≡◌, ◌∙◌, ap, rules}
use Rattle.serde_json.specs.Data.{number as data_number}
use Rattle.serde_json.specs.View.{view, number_view}
use Rattle.serde_json.specs.declared.value.Value.{Number, the_lemmas}
use Rattle.acceptance.specs.Json.{number}
use Rattle.schema_core.proofs.Writes.{present}
use Rattle.schema_core.proofs.pushes.push_bound.Goals as goal

pub returns-in_ok-push_value-in-Some : goal.returns-in_ok-push_value-in-Some
returns-in_ok-push_value-in-Some c = λ k e.
    let seen : view (Number c.number.result) ≡ data_number (number_view c.number.result) = search (rules, the_lemmas) in
    rw c.in-Some.is
    (present k (number c.in-Some.bound) c.args.later _ _ _ _ e c.in_ok-push_key-in-Some.ensures (c.in_ok-push_value-in-Some.ensures (number c.in-Some.bound) (seen ∙ ap data_number c.number.ensures.number)) (c.number.ensures.short, tt))

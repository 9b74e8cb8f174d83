use Rattle.std.proofs.Common.{Some, option_map, ap, sym, ◌∙◌}
use Rattle.serde_json.specs.View.{view}
use Rattle.schema_core.proofs.Puts.{given_put}
use Rattle.schema_core.proofs.members.put_given.Goals as goal

pub returns-in_ok-put-in-Some : goal.returns-in_ok-put-in-Some
returns-in_ok-put-in-Some c =
    λ given e ms h. given_put c.args.name.now given (Some (view c.in-Some.value)) ms _ _ h (ap (option_map view) (sym c.in-Some.is) ∙ e) c.in_ok-put-in-Some.ensures

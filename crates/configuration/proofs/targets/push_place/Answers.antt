use Rattle.std.proofs.Common.{◌∙◌, ◌++◌, [], ap, sym, append-nil}
use Rattle.std.specs.BTreeMap.{get_by_text}
use Rattle.std.specs.List.{cons_option}
use Rattle.configuration.proofs.targets.push_place.Goals as goal

pub returns-in_ok-push : goal.returns-in_ok-push
returns-in_ok-push c = c.in_ok-push.ensures.ok ∙ ap (λ o. c.args.found.now ++ cons_option o []) (c.in-Some.ensures.value ∙ ap (get_by_text c.args.places.now) c.as_str.ensures)

pub returns-in_default : goal.returns-in_default
returns-in_default c = sym (append-nil c.args.found.now) ∙ ap (λ o. c.args.found.now ++ cons_option o []) (c.in_default.ensures.value ∙ ap (get_by_text c.args.places.now) c.as_str.ensures)

use Rattle.std.proofs.Common.{Some, ap, ◌∙◌, option_map}
use Rattle.serde_json.specs.View.{view}
use Rattle.acceptance.specs.Data.{json_of}
use Rattle.acceptance_checker.proofs.Views.{look-pairs}
use Rattle.acceptance_checker.proofs.layer.member_at.Goals as goal

pub returns-in-Some : goal.returns-in-Some
returns-in-Some c = ap Some c.layer_of.ensures ∙ ap (option_map (λ v. json_of (view v))) c.in-Some.ensures.value ∙ look-pairs c.args.name.now c.args.members.now.entries

pub returns-in-None : goal.returns-in-None
returns-in-None c = ap (option_map (λ v. json_of (view v))) c.in-None.ensures.value ∙ look-pairs c.args.name.now c.args.members.now.entries

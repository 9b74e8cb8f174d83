use Rattle.std.proofs.Common.{◌≡◌, ◌∙◌, sym, ap, length, refl, option_map}
use Rattle.serde_json.specs.Data.{object}
use Rattle.serde_json.specs.View.{view, members_view}
use Rattle.configuration_json.proofs.FormLaws.{is_object, empty_members}
use Rattle.configuration_json.proofs.members.is_empty_object.Goals as goal

pub returns-in-Some : goal.returns-in-Some
returns-in-Some c =
    let is : view c.args.value.now ≡ object (members_view c.in-Some.members.now.entries) = is_object (view c.args.value.now) (members_view c.in-Some.members.now.entries) (sym c.as_object.ensures ∙ ap (option_map (λ m. members_view m.now.entries)) c.in-Some.is) in
    empty_members (view c.args.value.now) c.in-Some.members.now.entries c.is_empty.result (length c.in-Some.members.now.entries) is refl c.is_empty.ensures

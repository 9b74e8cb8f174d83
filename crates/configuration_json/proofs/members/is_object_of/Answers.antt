use Rattle.std.proofs.Common.{◌≡◌, ◌∙◌, sym, ap, map, option_map}
use Rattle.serde_json.specs.Data.{object}
use Rattle.serde_json.specs.View.{view, members_view}
use Rattle.configuration_json.proofs.FormLaws.{is_object, object_of}
use Rattle.configuration_json.proofs.members.is_object_of.Goals as goal

pub returns-in-Some : goal.returns-in-Some
returns-in-Some c =
    let is : view c.args.value.now ≡ object (members_view c.in-Some.members.now.entries) = is_object (view c.args.value.now) (members_view c.in-Some.members.now.entries) (sym c.as_object.ensures ∙ ap (option_map (λ m. members_view m.now.entries)) c.in-Some.is) in
    object_of (map (λ known. known.now) c.args.names.now) (view c.args.value.now) (members_view c.in-Some.members.now.entries) c.are_among.result is c.are_among.ensures

use Rattle.std.proofs.Common.{◌≡◌, ◌∙◌, sym, ap, arith, length, vec_len, option_map, subst, IsTrue, ◌↔◌}
use Rattle.std.proofs.lemmas.Bool.Decides.{Decides-eqb}
use Rattle.serde_json.specs.Data.{array}
use Rattle.serde_json.specs.View.{view, items_view}
use Rattle.configuration_json.proofs.FormLaws.{is_array, empty_items}
use Rattle.configuration_json.proofs.members.is_empty_list.Goals as goal

pub returns-in-Some : goal.returns-in-Some
returns-in-Some c =
    let is : view c.args.value.now ≡ array (items_view c.in-Some.items.now.items) = is_array (view c.args.value.now) (items_view c.in-Some.items.now.items) (sym c.as_array.ensures ∙ ap (option_map (λ v. items_view v.now.items)) c.in-Some.is) in
    let many : vec_len c.in-Some.items.now ≡ length c.in-Some.items.now.items = omega arith in
    let test : IsTrue c.is_empty.result ↔ (vec_len c.in-Some.items.now ≡ 0) = subst (λ b. IsTrue b ↔ (vec_len c.in-Some.items.now ≡ 0)) (sym c.is_empty.ensures) (Decides-eqb (vec_len c.in-Some.items.now) 0) in
    empty_items (view c.args.value.now) c.in-Some.items.now.items c.is_empty.result (vec_len c.in-Some.items.now) is many test

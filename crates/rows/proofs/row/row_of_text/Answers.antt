use Rattle.std.proofs.Common.{◌≡◌, Some, ◌∙◌, sym, ap, option_map}
use Rattle.serde_json.specs.Find.{as_array}
use Rattle.serde_json.specs.View.{view, items_view}
use Rattle.rows.proofs.RowLaws.{lines_of_list}
use Rattle.rows.proofs.row.row_of_text.Goals as goal

pub returns-in-Some : goal.returns-in-Some
returns-in-Some c =
    let is : Some (items_view c.as_slice.result.now) ≡ as_array (view c.in-Ok.value) =
    ap (λ vs. Some (items_view vs)) c.as_slice.ensures.value ∙ (sym (ap (option_map (λ v. items_view v.now.items)) c.in-Some.is) ∙ c.as_array.ensures) in
    lines_of_list c.args.text.now (view c.in-Ok.value) (items_view c.as_slice.result.now) c.row_of.result c.in-Ok.ensures.ok is c.row_of.ensures

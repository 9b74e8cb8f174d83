use Rattle.std.proofs.Common.{◌≡◌, ◌+◌, ◌∷◌, ◌++◌, [], sym, arith, subst, take, get_or}
use Rattle.serde_json.specs.View.{view, items_view}
use Rattle.diag.specs.declared.rename_row.RenameRow.{RenameRow}
use Rattle.configuration_json.specs.Form.{IsRow, AreRows}
use Rattle.configuration_json.proofs.FormLaws.{rows_more, none_at}
use Rattle.configuration_json.proofs.renames.table_of.Goals as goal

pub returns-in-None : goal.returns-in-None
returns-in-None c =
    let none : (row : RenameRow) → IsRow (view c.item-item.result) row → ⊥ = rw c.in-None.is at c.in_ok-row.ensures in
    let here : (row : RenameRow) → IsRow (view (get_or c.args.items.now c.loop-item.item-index c.item-item.result)) row → ⊥ = subst (λ v. (row : RenameRow) → IsRow (view v) row → ⊥) c.item-item.is none in
    none_at c.args.items.now c.loop-item.item-index c.item-item.result (omega arith) here

pub loop-item-preserved : goal.loop-item-preserved
loop-item-preserved c =
    let says : IsRow (view c.item-item.result) c.in-Some.row = rw c.in-Some.is at c.in_ok-row.ensures in
    let here : IsRow (view (get_or c.args.items.now c.loop-item.item-index c.item-item.result)) c.in-Some.row = subst (λ v. IsRow (view v) c.in-Some.row) c.item-item.is says in
    let grown : c.push.new.self ≡ c.loop-item.table ++ c.in-Some.row ∷ [] = c.in_ok-push-in-Some.ensures.ok in
    subst (AreRows (items_view (take (c.loop-item.item-index + 1) c.args.items.now))) (sym grown)
    (rows_more c.args.items.now c.loop-item.item-index c.loop-item.table c.item-item.result c.in-Some.row (omega arith) c.loop-item.invariant here)

use Rattle.std.proofs.lemmas.Grind.{common_steps}
use Rattle.std.proofs.Common.{arith, vec_len, ◌≡◌, ◌∙◌, sym, ap, subst, ℕ, List, Some, None, get_or, length, bytes_eq, string_bytes}
use Rattle.std.specs.BTreeMap.{get_by_text}
use Rattle.std.specs.Map.{update}
use Rattle.std.proofs.lemmas.Map.Text.{btree_map_updates_text}
use Rattle.diag.specs.RenameIndex.{slot_of, slots_of, put_place, IsIndex}
use Rattle.diag.proofs.RenameIndexLaws.{index_push}
use Rattle.diag.proofs.rename_table.RenameTable.push.Goals as goal

pub invariant_of-self-in-Ok : goal.invariant_of-self-in-Ok
invariant_of-self-in-Ok c =
    let row = c.args.row in
    let rows = c.self.inside.rows.items in
    let old = get_by_text c.self.inside.index in
    let name : string_bytes c.in_ok-from.from ≡ row.from = c.in_ok-from.ensures.ok ∙ c.as_str.ensures in
    let many : vec_len c.self.inside.rows ≡ length rows = omega arith in
    let slots : c.slots_with-slots.result ≡ put_place (get_or (slots_of (old row.from)) (slot_of row.rule row.place) None) (slot_of row.rule row.place) (length rows) (slots_of (old row.from)) =
    c.slots_with-slots.ensures ∙ ap (λ at. put_place (get_or (slots_of (old row.from)) (slot_of row.rule row.place) None) (slot_of row.rule row.place) at (slots_of (old row.from))) (c.len.ensures ∙ many) in
    let grown : (value : List ℕ) → get_by_text c.insert.new.self value ≡ update bytes_eq old row.from (Some (put_place (get_or (slots_of (old row.from)) (slot_of row.rule row.place) None) (slot_of row.rule row.place) (length rows) (slots_of (old row.from)))) value =
    subst (λ n. (value : List ℕ) → get_by_text c.insert.new.self value ≡ update bytes_eq old row.from (Some n) value) slots
    (subst (λ bs. (value : List ℕ) → get_by_text c.insert.new.self value ≡ update bytes_eq old bs (Some c.slots_with-slots.result) value) name
    (btree_map_updates_text (string_bytes c.in_ok-from.from) c.self.inside.index c.insert.new.self (Some c.slots_with-slots.result) c.in-Ok.ensures.updates)) in
    subst (IsIndex (get_by_text c.insert.new.self)) (sym c.in_ok-push.ensures.items) (index_push old (get_by_text c.insert.new.self) rows row c.self.invariant grown)

pub invariant_of-self-in-Err : goal.invariant_of-self-in-Err
invariant_of-self-in-Err c = grind (arith, common_steps)

pub returns-clause-err : goal.returns-clause-err
returns-clause-err c = grind (arith, common_steps)

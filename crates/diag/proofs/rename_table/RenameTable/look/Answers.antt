use Rattle.std.proofs.Common.{arith, ◌≡◌, ◌<◌, ◌∙◌, sym, ap, option_map, Some, None, get_or, length, find}
use Rattle.diag.specs.RenameRows.{is_for, row_to}
use Rattle.diag.specs.RenameIndex.{place_in}
use Rattle.diag.proofs.RenameIndexLaws.{found_none, found_within, found_some}
use Rattle.diag.proofs.rename_table.RenameTable.look.Goals as goal

pub index-requires : goal.index-requires
index-requires c =
    let placed : place_in (is_for c.args.rule c.args.place c.args.value.now) c.self.inside.rows.items ≡ Some c.in-Some.at = sym (c.self.invariant.places c.args.rule c.args.place c.args.value.now) ∙ sym c.place_of.ensures ∙ c.in-Some.is in
    let within : c.in-Some.at < length c.self.inside.rows.items = found_within (is_for c.args.rule c.args.place c.args.value.now) c.self.inside.rows.items c.in-Some.at placed in
    omega arith

pub returns-in-Some : goal.returns-in-Some
returns-in-Some c =
    let placed : place_in (is_for c.args.rule c.args.place c.args.value.now) c.self.inside.rows.items ≡ Some c.in-Some.at = sym (c.self.invariant.places c.args.rule c.args.place c.args.value.now) ∙ sym c.place_of.ensures ∙ c.in-Some.is in
    let found : find (is_for c.args.rule c.args.place c.args.value.now) c.self.inside.rows.items ≡ Some (get_or c.self.inside.rows.items c.in-Some.at c.index.result.now) = found_some (is_for c.args.rule c.args.place c.args.value.now) c.self.inside.rows.items c.in-Some.at c.index.result.now placed in
    sym (ap (row_to c.args.rule c.args.place c.args.value.now) (sym c.self.view_is) ∙ ap (option_map (λ row. row.to)) (found ∙ ap Some (sym c.index.ensures)) ∙ ap Some (sym c.as_str.ensures))

pub returns-in-None : goal.returns-in-None
returns-in-None c =
    let placed : place_in (is_for c.args.rule c.args.place c.args.value.now) c.self.inside.rows.items ≡ None = sym (c.self.invariant.places c.args.rule c.args.place c.args.value.now) ∙ sym c.place_of.ensures ∙ c.in-None.is in
    let none : find (is_for c.args.rule c.args.place c.args.value.now) c.self.inside.rows.items ≡ None = found_none (is_for c.args.rule c.args.place c.args.value.now) c.self.inside.rows.items placed in
    sym (ap (row_to c.args.rule c.args.place c.args.value.now) (sym c.self.view_is) ∙ ap (option_map (λ row. row.to)) none)

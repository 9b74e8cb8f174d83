use Rattle.std.proofs.Common.{map, sym, subst}
use Rattle.std.specs.Borrow.{Bor}
use Rattle.std.specs.BTreeMap.{get_by_text}
use Rattle.prepare.specs.declared.file_items.FileAlias.{FileAlias}
use Rattle.prepare.specs.declared.file_items.FileItem.{FileItem}
use Rattle.selecting.specs.Lists.{AreThose}
use Rattle.selecting.specs.Selected.{IsChosen, IsNeeded}
use Rattle.selecting.proofs.Choosing.{chosen, needed}
use Rattle.selecting.proofs.selected.selected_by.Goals as goal

pub returns-clause-items : goal.returns-clause-items
returns-clause-items c =
    let items = map (λ (i : Bor FileItem). i.now) c.args.items.now in
    let typed = map (λ (a : Bor FileAlias). a.now) c.args.typed.now in
    subst (AreThose (IsChosen c.args.selection.now _) items) (sym c.in_ok-chosen_by.ensures) (chosen c.args.selection.now items c.args.configured.now typed (get_by_text c.in_ok-unreached.unreached) c.in_ok-unreached.ensures)

pub returns-clause-aliases : goal.returns-clause-aliases
returns-clause-aliases c =
    let items = map (λ (i : Bor FileItem). i.now) c.args.items.now in
    let typed = map (λ (a : Bor FileAlias). a.now) c.args.typed.now in
    subst (AreThose (IsNeeded _) typed) (sym c.in_ok-needed_by.ensures) (needed c.args.selection.now items c.args.configured.now typed (get_by_text c.in_ok-unreached.unreached) c.in_ok-unreached.ensures)

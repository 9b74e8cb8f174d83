use Rattle.std.proofs.Common.{◌∙◌, [], ◌∷◌, map, ap, sym, subst}
use Rattle.std.specs.Borrow.{Bor}
use Rattle.prepare.specs.declared.file_items.FileAlias.{FileAlias}
use Rattle.prepare.specs.declared.file_items.FileItem.{FileItem}
use Rattle.telling.specs.declared.told.Told.{Told}
use Rattle.file_derivation.specs.Outcomes.{RefusesSelected, of_depth, of_length}
use Rattle.file_derivation.proofs.Stages.{told_if}
use Rattle.file_derivation.proofs.selected.are_within.Goals as goal

pub returns-then-branch-clause-told : goal.returns-then-branch-clause-told
returns-then-branch-clause-told c =
    let chosen = map (λ (i : Bor FileItem). i.now) c.args.chosen.now in
    let needed = map (λ (a : Bor FileAlias). a.now) c.args.needed.now in
    told_if c.alone.result
    (λ told is. subst (RefusesSelected c.args.selection.now c.args.config.now c.args.names.now chosen needed) (sym (is ∙ ap (λ (t : Told). t ∷ []) c.in_ok-told_deep.ensures)) (of_depth (c.in_ok-deep_aliases.ensures.0 c.if-branch.true))) c.alone.ensures

pub returns-then-are_long-clause-told : goal.returns-then-are_long-clause-told
returns-then-are_long-clause-told c =
    let chosen = map (λ (i : Bor FileItem). i.now) c.args.chosen.now in
    let needed = map (λ (a : Bor FileAlias). a.now) c.args.needed.now in
    told_if c.alone-then-are_long.result
    (λ told is. subst (RefusesSelected c.args.selection.now c.args.config.now c.args.names.now chosen needed) (sym (is ∙ ap (λ (t : Told). t ∷ []) c.in_ok-told_plainly.ensures)) (of_length c.if-are_long.ensures)) c.alone-then-are_long.ensures

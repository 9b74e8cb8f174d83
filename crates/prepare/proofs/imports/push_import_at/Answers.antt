use Rattle.std.proofs.Common.{◌∙◌, ◌++◌, ap, sym}
use Rattle.std.proofs.lemmas.List.{append-nil}
use Rattle.prepare.proofs.Few.{few_give_none}
use Rattle.prepare.proofs.imports.push_import_at.Goals as goal

pub returns-in_default : goal.returns-in_default
returns-in_default c =
    let all = c.args.standing.now in
    sym (append-nil all) ∙ ap (λ v. all ++ v) (sym (few_give_none c.args.trees.now c.in_default.len_below))

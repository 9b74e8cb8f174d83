use Rattle.std.proofs.Common.{◌∙◌, ap, List, ℕ}
use Rattle.telling.specs.Told.{told_at}
use Rattle.telling.specs.declared.told.Told.{Told}
use Rattle.gathering.proofs.Helped.{by_first}
use Rattle.gathering.proofs.fault.told_by.Goals as goal

pub returns : goal.returns
returns c =
    let help = c.in_ok-help.help in
    c.with_help.ensures
    ∙ ap (λ (told : Told). let whole : Told = record told { help = help } in whole)
    (c.in_ok-told.ensures ∙ ap (λ (label : List ℕ). told_at c.args.path.now c.args.place.now c.args.text.now c.span.result label c.message.result.now) c.name.ensures)
    ∙ by_first c.args.path.now c.args.text.now c.args.place.now c.args.refusal.now c.span.result c.kind.result c.message.result.now help c.span.ensures c.kind.ensures c.message.ensures c.in_ok-help.ensures

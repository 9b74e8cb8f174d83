use Rattle.std.proofs.Common.{◌∙◌, ap, ap₂, List, ℕ}
use Rattle.std.specs.Prelude.{codes, Some}
use Rattle.telling.specs.Told.{told_at}
use Rattle.telling.specs.declared.part.Place.{Place}
use Rattle.telling.specs.declared.told.Told.{Told}
use Rattle.gathering.proofs.gathered.told_broken.Goals as goal

pub returns : goal.returns
returns c =
    let end = c.new-end.result in
    let is = c.in_ok-told.ensures ∙ ap (λ (place : Place). told_at c.args.name.now place c.args.text.now end (codes "Syntax") (codes "unexpected text in a declaration")) c.in_ok-place.ensures in
    (end, (c.new-end.ensures.start, c.new-end.ensures.end), c.with_help.ensures ∙ ap₂ (λ (told : Told) (help : List ℕ). let whole : Told = record told { help = Some help } in whole) is c.in_ok-help.ensures)

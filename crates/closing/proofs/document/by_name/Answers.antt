use Rattle.std.proofs.Common.{◌≡◌, ◌<◌, ◌∙◌, [], length, get_or, rules}
use Rattle.std.proofs.lemmas.List.{get_or_default}
use Rattle.inlining.proofs.Laws.{among_at}
use Rattle.closing.proofs.EntriesAt.{numbers_more}
use Rattle.closing.proofs.document.by_name.Goals as goal

pub bounds-names-number : goal.bounds-names-number
bounds-names-number c = c.requires (get_or c.args.components.now c.loop-number.number-index 0) (among_at c.args.components.now c.loop-number.number-index 0 c.loop-number-test.true)

pub offset_bounds-names-number : goal.offset_bounds-names-number
offset_bounds-names-number c =
    let components = c.args.components.now in
    let i = c.loop-number.number-index in
    let within : get_or components i 0 < length c.args.names.now = c.requires (get_or components i 0) (among_at components i 0 c.loop-number-test.true) in
    search rules

pub loop-number-preserved : goal.loop-number-preserved
loop-number-preserved c =
    let names = c.args.names.now in
    let components = c.args.components.now in
    let i = c.loop-number.number-index in
    let p = get_or components i 0 in
    let within : p < length names = c.requires p (among_at components i 0 c.loop-number-test.true) in
    let named : c.as_str.result.now ≡ get_or names p [] = c.as_str.ensures ∙ c.index-names-number.is ∙ get_or_default names p c.index-names-number.result [] within in
    numbers_more names components i c.as_str.result c.loop-number.numbers.entries c.insert.new.self.entries c.loop-number-test.true named c.in_ok-insert.ensures.entries ∙ c.loop-number.invariant

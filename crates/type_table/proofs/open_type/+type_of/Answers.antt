use Rattle.std.proofs.Common.{arith, rules, ◌∙◌, ◌<◌, sym, ap, subst, length, map, get_or}
use Rattle.std.proofs.lemmas.List.{take_all}
use denote.Param.Weighed.{at_most}
use Rattle.open_types.specs.Open.{opens_of}
use Rattle.type_table.specs.Types.{type_at}
use Rattle.type_table.proofs.Chains.{types-are}
use Rattle.type_table.proofs.Fronts.{argument_within}
use Rattle.type_table.proofs.open_type.+type_of.Goals as goal

pub open_types-open_type-requires : goal.open_types-open_type-requires
open_types-open_type-requires t c =
    let numbers = c.in_ok-numbers.numbers in
    let slice = c.as_slice-number-items.result.now in
    let at : c.loop-number.number-index < length numbers = subst (λ ns. c.loop-number.number-index < length ns) c.as_slice-number-items.ensures c.loop-number-test.true in
    let before : c.number-item.result < c.args.tuple =
    subst (λ n. n < c.args.tuple) (ap (λ ns. get_or ns c.loop-number.number-index c.number-item.result) (sym c.as_slice-number-items.ensures) ∙ sym c.number-item.is)
    (argument_within c.args.tuple numbers c.loop-number.number-index c.number-item.result c.in_ok-numbers.ensures.below at) in
    let within : c.number-item.result < length c.args.types.now = omega (arith, before, c.requires.within) in
    (search (rules, at_most), within)

pub open_types-returns : goal.open_types-returns
open_types-returns t c =
    let known = c.args.types.now in
    let slice = c.as_slice-number-items.result.now in
    ap opens_of (c.loop-number.invariant ∙ ap (map (type_at known)) (take_all c.loop-number.number-index slice (omega arith) ∙ c.as_slice-number-items.ensures))
    ∙ types-are known c.in_ok-numbers.numbers
    ∙ c.in_ok-numbers.ensures.items

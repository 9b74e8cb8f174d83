use Rattle.std.proofs.Common.{◌≡◌, ◌∙◌, ◌<◌, ◌-◌, length, drop, ap, sym, subst, rules, arith}
use Rattle.type_table.proofs.Laws.{argument_within}
use Rattle.instances.proofs.Numbers.{all-placed, place_from}
use Rattle.instances.proofs.reach.numbers_of.Goals as goal

pub index_mut-requires : goal.index_mut-requires
index_mut-requires c =
    let ids = c.args.instances.now in
    let at : c.loop-left.left - 1 < length ids = omega (arith, c.loop-left.invariant.few, c.loop-left-test.true) in
    let below : c.number.result < length c.args.types.now =
    subst (λ n. n < length c.args.types.now) (sym (c.number.ensures ∙ c.index-instances-left.is)) (argument_within (length c.args.types.now) ids (c.loop-left.left - 1) c.index-instances-left.result c.requires at) in
    let within : c.number.result < length c.loop-left.numbers.items = subst (λ n. c.number.result < n) (sym c.loop-left.invariant.many) below in
    search rules

pub returns-clause-placed : goal.returns-clause-placed
returns-clause-placed c = λ n l.
    let none : c.loop-left.left ≡ 0 = omega (arith, c.loop-left-test.false) in
    c.loop-left.invariant.placed n l ∙ ap (λ at. place_from at (drop at c.args.instances.now) n) none ∙ all-placed c.args.instances.now n

use Rattle.std.proofs.Common.{◌∙◌, ◌<◌, length, map, get_or, ap, sym, subst, arith}
use Rattle.std.proofs.lemmas.List.{take_all}
use Rattle.open_types.specs.Open.{opens_of}
use Rattle.open_types.specs.Instances.{arguments_of}
use Rattle.type_table.specs.Types.{type_at}
use Rattle.type_table.proofs.Laws.{argument_within, types-are}
use Rattle.instances.proofs.Numbers.{id-within, id-type}
use Rattle.instances.proofs.reach.Reach.arguments.Goals as goal

pub arguments-requires : goal.arguments-requires
arguments-requires c = id-within c.self.inside.types c.self.inside.instances c.as_slice.result.now c.args.self.now c.args.number c.index-as_slice-number.result c.self.invariant.within c.as_slice.ensures (sym c.self.view_is) c.requires c.index-as_slice-number.is

pub type_of-requires : goal.type_of-requires
type_of-requires c =
    let known = c.self.inside.types in
    let id = c.index-as_slice-number.result in
    let whole : id < length known = id-within known c.self.inside.instances c.as_slice.result.now c.args.self.now c.args.number id c.self.invariant.within c.as_slice.ensures (sym c.self.view_is) c.requires c.index-as_slice-number.is in
    let at : c.loop-id.id-index < length c.in_ok-ids.ids = subst (λ ns. c.loop-id.id-index < length ns) c.as_slice-id-items.ensures c.loop-id-test.true in
    let before : c.id-item.result < id =
    subst (λ n. n < id) (ap (λ ns. get_or ns c.loop-id.id-index c.id-item.result) (sym c.as_slice-id-items.ensures) ∙ sym c.id-item.is) (argument_within id c.in_ok-ids.ids c.loop-id.id-index c.id-item.result c.in_ok-ids.ensures.below at) in
    omega (arith, whole, before)

pub returns : goal.returns
returns c =
    let known = c.self.inside.types in
    ap opens_of (c.loop-id.invariant ∙ ap (map (type_at known)) (take_all c.loop-id.id-index c.as_slice-id-items.result.now (omega arith) ∙ c.as_slice-id-items.ensures))
    ∙ types-are known c.in_ok-ids.ids
    ∙ c.in_ok-ids.ensures.arguments
    ∙ ap arguments_of (id-type known c.self.inside.instances c.as_slice.result.now c.args.self.now c.args.number c.index-as_slice-number.result c.self.invariant.within c.as_slice.ensures (sym c.self.view_is) c.requires c.index-as_slice-number.is)

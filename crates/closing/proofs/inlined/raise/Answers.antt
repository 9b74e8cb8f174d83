use Rattle.std.proofs.Common.{◌<◌, ◌∙◌, length, get_or, sym, subst, rules}
use Rattle.std.proofs.lemmas.List.{length-set}
use Rattle.inlining.proofs.Laws.{among_at}
use Rattle.closing.proofs.Kept.{raised_more, others_more}
use Rattle.closing.proofs.inlined.raise.Goals as goal

pub index_mut-requires : goal.index_mut-requires
index_mut-requires c =
    let targets = c.args.targets.now in
    let i = c.loop-target.target-index in
    let there : get_or targets i 0 < length c.args.until.now.items = c.requires (get_or targets i 0) (among_at targets i 0 c.loop-target-test.true) in
    let within : get_or targets i 0 < length c.loop-target.until.items = subst (λ n. get_or targets i 0 < n) (sym c.loop-target.invariant.many) there in
    search rules

pub loop-target-preserved : goal.loop-target-preserved
loop-target-preserved c =
    let targets = c.args.targets.now in
    let i = c.loop-target.target-index in
    let xs = c.loop-target.until.items in
    let l : i < length targets = c.loop-target-test.true in
    let there : get_or targets i 0 < length c.args.until.now.items = c.requires (get_or targets i 0) (among_at targets i 0 l) in
    let within : get_or targets i 0 < length xs = subst (λ n. get_or targets i 0 < n) (sym c.loop-target.invariant.many) there in
    record {
      many = length-set xs (get_or targets i 0) c.args.turn ∙ c.loop-target.invariant.many;
      targets = raised_more xs targets i c.args.turn l within c.loop-target.invariant.targets;
      others = others_more xs c.args.until.now.items targets i c.args.turn l c.loop-target.invariant.others;
    }

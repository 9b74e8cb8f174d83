use Rattle.std.proofs.Common.{◌≡◌, ◌<◌, ◌+◌, length, take, get_or, ap, sym, subst, rules, arith}
use Rattle.std.proofs.lemmas.List.{take_all}
use Rattle.inlining.specs.Inlining.{IsAmong}
use Rattle.inlining.proofs.Laws.{among_at}
use Rattle.closing.proofs.Kept.{AreLetGo, let_go_none, let_go_more, let_go_over}
use Rattle.closing.proofs.inlined.drop_done.Goals as goal
use Rattle.closing.proofs.inlined.drop_done.Goals.{then-until-target+in-Some-1, then-until-target+in-None-1, else-until-target}

pub offset_bounds-until-target : goal.offset_bounds-until-target
offset_bounds-until-target c =
    let targets = c.args.targets.now in
    let i = c.loop-target.target-index in
    let within : get_or targets i 0 < length c.args.until.now = c.requires.until (get_or targets i 0) (among_at targets i 0 c.loop-target-test.true) in
    search rules

pub bounds-until-target : goal.bounds-until-target
bounds-until-target c =
    let targets = c.args.targets.now in
    let i = c.loop-target.target-index in
    c.requires.until (get_or targets i 0) (among_at targets i 0 c.loop-target-test.true)

pub index_mut-requires : goal.index_mut-requires
index_mut-requires c =
    let targets = c.args.targets.now in
    let i = c.loop-target.target-index in
    let there : get_or targets i 0 < length c.args.made.now.items = c.requires.made (get_or targets i 0) (among_at targets i 0 c.loop-target-test.true) in
    let within : get_or targets i 0 < length c.loop-target.made.items = subst (λ n. get_or targets i 0 < n) (sym c.loop-target.invariant.many) there in
    search rules

pub loop-target-preserved : goal.loop-target-preserved
loop-target-preserved c =
    let targets = c.args.targets.now in
    let i = c.loop-target.target-index in
    let until = c.args.until.now in
    let made = c.loop-target.made.items in
    let p = get_or targets i 0 in
    let l : i < length targets = c.loop-target-test.true in
    let there : p < length c.args.made.now.items = c.requires.made p (among_at targets i 0 l) in
    let within : p < length made = subst (λ n. p < n) (sym c.loop-target.invariant.many) there in
    elim c.if-until-target.branch [
      | then-until-target+in-Some-1 w ↦ let_go_more c.args.made.now.items made c.if-until-target.made.items until targets i c.args.turn l within w.if-until-target.true (ap (λ v. v.items) w.made-is) c.loop-target.invariant
      | then-until-target+in-None-1 w ↦ let_go_more c.args.made.now.items made c.if-until-target.made.items until targets i c.args.turn l within w.if-until-target.true (ap (λ v. v.items) w.made-is) c.loop-target.invariant
      | else-until-target w ↦
          subst (λ xs. AreLetGo c.args.made.now.items xs until (take (i + 1) targets) c.args.turn) (sym (ap (λ v. v.items) w.made-is)) (let_go_over c.args.made.now.items made until targets i c.args.turn l w.if-until-target.false c.loop-target.invariant)
    ]

pub loop-target-init : goal.loop-target-init
loop-target-init c = let_go_none c.args.made.now.items c.args.until.now c.args.turn

pub returns : goal.returns
returns c =
    let invariant = c.loop-target.invariant in
    let all : take c.loop-target.target-index c.args.targets.now ≡ c.args.targets.now = take_all c.loop-target.target-index c.args.targets.now (omega arith) in
    record {
      many = invariant.many;
      done = λ n among. invariant.done n (subst (IsAmong n) (sym all) among);
      others = invariant.others;
    }

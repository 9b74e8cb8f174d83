use Rattle.std.proofs.Common.{◌<◌, ◌∙◌, length, map, is_some, None, ap, sym, subst, arith}
use Rattle.std.proofs.lemmas.Bool.{false≢true}
use Rattle.std.proofs.lemmas.List.{get_or_read}
use Rattle.inlining.specs.Found.{AreFound}
use Rattle.plainness.proofs.Leading.{found-none, own-none, own-more, own-same, hindered-below}
use Rattle.plainness.proofs.origins.hindered.Goals as goal
use Rattle.plainness.proofs.origins.hindered.Goals.{then-is_some+in_ok-add, else-is_some}

pub loop-number-init : goal.loop-number-init
loop-number-init c =
    let walk = c.in_ok-walk.walk in
    record {
      many = c.in_ok-walk.ensures.many;
      found = subst (AreFound (map is_some walk.origins.items)) (sym c.in_ok-walk.ensures.numbers) (found-none walk.origins.items c.in_ok-walk.ensures.none);
      own = own-none c.args.obstacles.now walk.origins.items walk.numbers c.in_ok-walk.ensures.none;
    }

pub loop-number-preserved : goal.loop-number-preserved
loop-number-preserved c =
    let obstacles = c.args.obstacles.now in
    let k = c.loop-number.number in
    let walk = c.loop-number.walk in
    let read = c.is_some.ensures ∙ ap is_some (get_or_read obstacles k c.index-obstacles-number.result (omega arith) c.index-obstacles-number.is None) in
    elim c.if-is_some.branch [
      | then-is_some+in_ok-add w ↦
          let own = own-more obstacles k walk.origins.items w.add.new.self.origins.items walk.numbers w.add.new.self.numbers (sym read ∙ w.if-is_some.true) c.loop-number.invariant.own w.in_ok-add.ensures.given w.in_ok-add.ensures.grown in
          rw w.walk-is (record {
            many = w.in_ok-add.ensures.many ∙ c.loop-number.invariant.many;
            found = w.in_ok-add.ensures.found;
            own = own;
          })
      | else-is_some w ↦
          let own = own-same obstacles k walk.origins.items walk.numbers (λ p. false≢true (sym w.if-is_some.false ∙ read ∙ p)) c.loop-number.invariant.own in
          rw w.walk-is (record {
            many = c.loop-number.invariant.many;
            found = c.loop-number.invariant.found;
            own = own;
          })
    ]

pub returns-clause-own : goal.returns-clause-own
returns-clause-own c = c.loop-number.invariant.own.own

pub returns-clause-all : goal.returns-clause-all
returns-clause-all c = λ n h. let l : n < length c.args.obstacles.now = hindered-below c.args.obstacles.now n h in c.loop-number.invariant.own.all n (omega (arith, l)) h

use Rattle.std.proofs.Common.{◌<◌, ◌∙◌, get_or, sym, subst, arith}
use Rattle.inlining.proofs.Among.{among_at}
use Rattle.inlining.proofs.Found.{grown_more}
use Rattle.plainness.proofs.Leading.{given-on}
use Rattle.plainness.proofs.origins.Walk.add_all.Goals as goal

pub add-requires-clause-within : goal.add-requires-clause-within
add-requires-clause-within c =
    let number = get_or c.args.numbers.now c.loop-number.number-index 0 in
    subst (λ k. number < k) (sym c.loop-number.invariant.many) (c.requires.within number (among_at c.args.numbers.now c.loop-number.number-index 0 (omega arith)))

pub loop-number-preserved : goal.loop-number-preserved
loop-number-preserved c = record {
  many = c.in_ok-add.ensures.many ∙ c.loop-number.invariant.many;
  found = c.in_ok-add.ensures.found;
  grown = grown_more c.args.self.now.numbers c.args.numbers.now c.loop-number.self.numbers c.add.new.self.numbers c.loop-number.number-index (omega arith) c.loop-number.invariant.grown c.in_ok-add.ensures.grown;
  given = given-on c.args.self.now.origins.items c.args.numbers.now c.args.origin c.loop-number.self.origins.items c.add.new.self.origins.items c.loop-number.number-index (omega arith) c.loop-number.invariant.given c.in_ok-add.ensures.given;
}

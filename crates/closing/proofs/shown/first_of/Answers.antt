use Rattle.std.proofs.Common.{◌≡◌, ◌∙◌, ◌+◌, ℕ, length, map, sym, subst, arith}
use Rattle.std.proofs.lemmas.Bool.{false≢true}
use Rattle.instances.specs.Lists.{instance_at}
use Rattle.shapes.specs.Views.{declaration_view}
use Rattle.closing.specs.Links.{IsFirst}
use Rattle.closing.proofs.ShownNumbers.{AreChosen, chosen-more, chosen-same}
use Rattle.closing.proofs.shown.first_of.Goals as goal
use Rattle.closing.proofs.shown.first_of.Goals.{then-is_first+in_ok-push, else-is_first}

pub loop-number-preserved : goal.loop-number-preserved
loop-number-preserved c =
    let ss = map declaration_view c.args.declared.now in
    let P : ℕ → Type 0 = λ n. IsFirst ss c.args.all (instance_at c.args.reach.now n) in
    let k = c.loop-number.number in
    elim c.if-is_first.branch [
      | then-is_first+in_ok-push w ↦
          subst (AreChosen P (k + 1)) (sym w.in_ok-push.ensures.ok ∙ sym w.first-is) (chosen-more P k c.loop-number.first (c.is_first.ensures.0 w.if-is_first.true) c.loop-number.invariant)
      | else-is_first w ↦
          subst (AreChosen P (k + 1)) (sym w.first-is) (chosen-same P k c.loop-number.first (λ p. false≢true (sym w.if-is_first.false ∙ c.is_first.ensures.1 p)) c.loop-number.invariant)
    ]

pub returns : goal.returns
returns c =
    let ss = map declaration_view c.args.declared.now in
    let P : ℕ → Type 0 = λ n. IsFirst ss c.args.all (instance_at c.args.reach.now n) in
    let whole : c.loop-number.number ≡ length c.args.reach.now = omega arith in
    let found : AreChosen P (length c.args.reach.now) c.loop-number.first = subst (λ k. AreChosen P k c.loop-number.first) whole c.loop-number.invariant in
    found.each

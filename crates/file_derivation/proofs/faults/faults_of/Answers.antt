use Rattle.std.proofs.Common.{◌≡◌, ◌∙◌, ◌+◌, ℕ, suc, map, ap, sym, subst, arith}
use Rattle.std.specs.Borrow.{Bor}
use Rattle.syntax.specs.declared.item.Declarations.{Declarations}
use Rattle.syntax.specs.Items.{declarations_view}
use Rattle.prepare.specs.declared.file_items.FileItem.{FileItem}
use Rattle.file_derivation.specs.Faults.{IsFaultAt, AreFaults, none_yet, one_more, with_told}
use Rattle.file_derivation.specs.Helps.{Origin}
use Rattle.file_derivation.proofs.faults.faults_of.Goals as goal
use Rattle.file_derivation.proofs.faults.faults_of.Goals.{in-Some+in_ok-push, in_default}

next : (n : ℕ) → suc n ≡ n + 1
next n = omega arith

pub loop-at-init : goal.loop-at-init
loop-at-init c =
    subst (AreFaults c.args.config.now (declarations_view c.args.declarations.now) (record { names = c.args.names.now; excluded = c.args.excluded.now; from = map (λ (i : Bor FileItem). i.now) c.args.from.now }) 0) (sym c.new-faults.ensures) none_yet

pub loop-at-preserved : goal.loop-at-preserved
loop-at-preserved c =
    let config = c.args.config.now in
    let ds = declarations_view c.args.declarations.now in
    let origin : Origin = record { names = c.args.names.now; excluded = c.args.excluded.now; from = map (λ (i : Bor FileItem). i.now) c.args.from.now } in
    let at = c.loop-at.at in
    let told = c.in_ok-told.field-0 in
    let fault : IsFaultAt config ds origin at told = subst (λ (v : Declarations). IsFaultAt config (declarations_view v) origin at told) c.in_ok-places.ensures c.in_ok-told.ensures in
    let more : AreFaults config ds origin (at + 1) (with_told c.loop-at.faults told) = subst (λ n. AreFaults config ds origin n (with_told c.loop-at.faults told)) (next at) (one_more told c.loop-at.invariant fault) in
    elim c.match-branch-3.branch [
      | in-Some+in_ok-push w ↦
          let faults : c.match-branch-3.faults ≡ with_told c.loop-at.faults told = w.faults-is ∙ w.in_ok-push.ensures.ok ∙ sym (ap (with_told c.loop-at.faults) w.in-Some.is) in
          subst (AreFaults config ds origin (at + 1)) (sym faults) more
      | in_default w ↦
          let faults : c.match-branch-3.faults ≡ with_told c.loop-at.faults told = w.faults-is ∙ sym (ap (with_told c.loop-at.faults) w.in_default.is) in
          subst (AreFaults config ds origin (at + 1)) (sym faults) more
    ]

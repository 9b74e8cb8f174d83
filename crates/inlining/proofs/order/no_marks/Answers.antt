use Rattle.std.proofs.Common.{◌<◌, ◌∙◌, ◌++◌, ◌∷◌, [], List, Bool, length, false, ap, sym, arith}
use Rattle.std.proofs.lemmas.List.{map_more}
use Rattle.inlining.proofs.order.no_marks.Goals as goal

pub loop-preserved : goal.loop-preserved
loop-preserved c =
    let at : c.loop.counter < length c.args.targets.now = omega arith in
    c.in_ok-push.ensures.ok ∙ ap (λ (marks : List Bool). marks ++ false ∷ []) c.loop.invariant ∙ sym (map_more (λ _. false) c.args.targets.now c.loop.counter [] at)

use Rattle.std.proofs.Common.{◌≡◌, ◌<◌, ◌+◌, ◌∙◌, List, ℕ, length, drop, refl, ap, sym, subst, arith}
use Rattle.std.proofs.lemmas.List.{take_at}
use Rattle.inlining.specs.Inlining.{targets_of}
use Rattle.inlining.proofs.Among.{links_read, linked_below}
use Rattle.plainness.specs.Edges.{AreAdded}
use Rattle.plainness.proofs.Turning.{AreTurnedBelow, turned-none, turned-more, turned-all}
use Rattle.plainness.proofs.turned.turned.Goals as goal

pub loop-from-init : goal.loop-from-init
loop-from-init c = turned-none c.args.edges.now c.in_ok-turned.turned.items c.in_ok-turned.ensures.many c.in_ok-turned.ensures.none

pub add_to-requires : goal.add_to-requires
add_to-requires c = λ m i.
    let edges = c.args.edges.now in
    let below = linked_below edges c.loop-from.from (length edges) m c.index-edges-from.result c.as_slice.result.now (omega arith) (c.as_slice.ensures ∙ c.index-edges-from.is) c.requires i in
    subst (λ n. m < n) (sym (ap length c.as_mut_slice.ensures.value ∙ c.loop-from.invariant.many)) below

pub loop-from-preserved : goal.loop-from-preserved
loop-from-preserved c =
    let edges = c.args.edges.now in
    let turned = c.loop-from.turned.items in
    let from = c.loop-from.from in
    let after = c.add_to.new.lists in
    let own : c.as_slice.result.now ≡ targets_of edges from = links_read edges from from c.index-edges-from.result c.as_slice.result.now (omega arith) refl (c.as_slice.ensures ∙ c.index-edges-from.is) in
    let added : AreAdded turned (targets_of edges from) from after =
    subst (λ (g : List (List ℕ)). AreAdded g (targets_of edges from) from after) c.as_mut_slice.ensures.value
    (subst (λ (ts : List ℕ). AreAdded c.as_mut_slice.result.now ts from after) own c.in_ok-add_to.ensures) in
    let many : length after ≡ length turned = c.add_to.auto.lists ∙ ap length c.as_mut_slice.ensures.value in
    let whole : length after ≡ c.loop-from.turned.len = c.add_to.auto.lists ∙ c.as_mut_slice.ensures.len in
    subst (AreTurnedBelow edges (from + 1)) (sym (take_at after (drop (length after) turned) c.loop-from.turned.len whole))
    (turned-more edges turned after from many c.loop-from.invariant added)

pub returns : goal.returns
returns c = turned-all c.args.edges.now c.loop-from.turned.items c.loop-from.from (omega arith) c.loop-from.invariant

use Rattle.std.proofs.Common.{◌≡◌, ◌<◌, ◌↔◌, ◌∙◌, ℕ, List, [], length, slice_index, take, get_or, ap, sym, subst, arith, rules}
use Rattle.std.proofs.lemmas.Bool.{ltb-true, lt-ltb}
use Rattle.std.proofs.lemmas.List.{take_all, length-set}
use Rattle.inlining.specs.Counts.{saturated, count_of}
use Rattle.inlining.specs.Inlining.{targets_of, IsAmong, sum_of, copies}
use Rattle.inlining.proofs.Among.{targets_at}
use Rattle.inlining.proofs.Orders.{behind_at, seen_only, order_targets}
use Rattle.inlining.proofs.Counts.{AreCounted, count_is, counted_more, more_copies}
use Rattle.inlining.proofs.copies.are_more_copies.Goals as goal

pub bounds-targets-place : goal.bounds-targets-place
bounds-targets-place c = (behind_at c.args.targets.now [] c.args.order.now c.loop-place.place-index c.requires.order.behind (omega arith)).0

pub offset_bounds-targets-place : goal.offset_bounds-targets-place
offset_bounds-targets-place c =
    let within : get_or c.args.order.now c.loop-place.place-index 0 < length c.args.targets.now = (behind_at c.args.targets.now [] c.args.order.now c.loop-place.place-index c.requires.order.behind (omega arith)).0 in
    search rules

pub count_of-count-requires : goal.count_of-count-requires
count_of-count-requires c = λ t i.
    let g = c.args.targets.now in
    let place = get_or c.args.order.now c.loop-place.place-index 0 in
    let behind = behind_at g [] c.args.order.now c.loop-place.place-index c.requires.order.behind (omega arith) in
    let of : c.as_slice.result.now ≡ targets_of g place = c.as_slice.ensures ∙ c.index-targets-place.is ∙ sym (targets_at g place c.index-targets-place.result behind.0) in
    let within : t < length g = order_targets g c.args.order.now c.requires.order place t (subst (IsAmong t) of i) in
    subst (λ n. t < n) (sym (ap length c.as_slice-in-loop-place.ensures.value ∙ c.loop-place.invariant.many)) within

pub index_mut-requires : goal.index_mut-requires
index_mut-requires c =
    let within : get_or c.args.order.now c.loop-place.place-index 0 < length c.args.targets.now = (behind_at c.args.targets.now [] c.args.order.now c.loop-place.place-index c.requires.order.behind (omega arith)).0 in
    subst (λ n. get_or c.args.order.now c.loop-place.place-index 0 < n) (sym (sym c.as_slice-in-loop-place.ensures.len ∙ ap length c.as_slice-in-loop-place.ensures.value ∙ c.loop-place.invariant.many)) within

pub loop-place-preserved : goal.loop-place-preserved
loop-place-preserved c =
    let g = c.args.targets.now in
    let counts = c.loop-place.counts.items in
    let order = c.args.order.now in
    let at : c.loop-place.place-index < length order = omega arith in
    let place = get_or order c.loop-place.place-index 0 in
    let behind = behind_at g [] order c.loop-place.place-index c.requires.order.behind at in
    let of : c.as_slice.result.now ≡ targets_of g place = c.as_slice.ensures ∙ c.index-targets-place.is ∙ sym (targets_at g place c.index-targets-place.result behind.0) in
    let targets = order_targets g order c.requires.order in
    let counted : AreCounted g c.args.most counts (targets_of g place) = λ t i. c.loop-place.invariant.counted t (seen_only (take c.loop-place.place-index order) t (behind.1 t i)) in
    let count : c.count_of-count.result ≡ saturated (copies g c.args.most place) =
    c.count_of-count.ensures
    ∙ ap (λ (ns : List ℕ). count_of ns c.as_slice.result.now) c.as_slice-in-loop-place.ensures.value
    ∙ ap (count_of counts) of
    ∙ count_is g c.args.most counts place targets c.requires.depth behind.0 counted in
    let within : place < length counts = subst (λ n. place < n) (sym c.loop-place.invariant.many) behind.0 in
    record {
      many = length-set counts place c.count_of-count.result ∙ c.loop-place.invariant.many;
      counted = counted_more g c.args.most counts order c.loop-place.place-index c.count_of-count.result at within count c.loop-place.invariant.counted;
    }

pub total_of-requires : goal.total_of-requires
total_of-requires c = λ n i. subst (λ k. n < k) (sym (ap length c.as_slice-2.ensures.value ∙ c.loop-place.invariant.many)) (c.requires.counted n i)

pub returns : goal.returns
returns c =
    let g = c.args.targets.now in
    let counts = c.loop-place.counts.items in
    let order = c.args.order.now in
    let all : AreCounted g c.args.most counts order = subst (AreCounted g c.args.most counts) (take_all c.loop-place.place-index order (omega arith)) c.loop-place.invariant.counted in
    let total = c.total_of.ensures ∙ ap (λ (ns : List ℕ). saturated (sum_of (slice_index ns) c.args.counted.now)) c.as_slice-2.ensures.value in
    let same : (c.args.limit < c.total_of.result) ↔ (c.args.limit < sum_of (copies g c.args.most) c.args.counted.now) =
    more_copies g c.args.most c.args.limit c.total_of.result counts c.args.counted.now c.requires.limit (λ n i. all n (c.requires.order.all n (c.requires.counted n i))) total in
    (λ b. same.0 (ltb-true c.args.limit c.total_of.result b), λ l. lt-ltb c.args.limit c.total_of.result (same.1 l))

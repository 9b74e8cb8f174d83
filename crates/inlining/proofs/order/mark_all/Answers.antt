use Rattle.std.proofs.Common.{◌≡◌, ◌+◌, ◌∙◌, ◌++◌, ◌∷◌, [], suc, List, Bool, false, length, ap, ap₂, sym, subst, subst₂, arith, add-one}
use Rattle.std.proofs.lemmas.Bool.{false≢true}
use Rattle.std.proofs.lemmas.List.{length_push}
use Rattle.inlining.specs.Inlining.{IsAmong, AreBehind, AreOnce}
use Rattle.inlining.specs.Marks.{mark, no_marks, next_marks, marks_of, new_marks, AreRounds}
use Rattle.inlining.proofs.Marks.{mark-none, length-marks, length-next, rounds_push, round_read, all_of_round, all_marked, match_more}
use Rattle.inlining.proofs.Once.{AreMarked, once_more, marked_more}
use Rattle.inlining.proofs.Orders.{AreOrdered, ordered_more, behind_more, is_within}
use Rattle.inlining.proofs.order.mark_all.Goals as goal

pub loop-round-init : goal.loop-round-init
loop-round-init c =
    let g = c.args.targets.now in
    let first : c.push.new.self ≡ no_marks g ∷ [] = c.in_ok-push.ensures.ok ∙ (λ i. c.requires.rounds i ++ c.in_ok-no_marks.ensures i ∷ []) in
    record {
      many = ap length first;
      rounds = subst (AreRounds g) (sym first) (rounds_push g [] (λ n h. absurd (omega (arith, h))));
      ordered = λ d h m. absurd (false≢true (sym (mark-none g d) ∙ m));
      marked = λ d i. absurd (subst (IsAmong d) c.requires.order i);
      once = subst AreOnce (sym c.requires.order) tt;
      behind = subst (AreBehind g []) (sym c.requires.order) tt;
    }

pub returns-then-is_none : goal.returns-then-is_none
returns-then-is_none c =
    let g = c.args.targets.now in
    let n = c.loop-round.round in
    let marks = c.as_slice-marks.result.now in
    let round : marks ≡ marks_of g n =
    round_read g c.loop-round.rounds c.as_slice.result.now n c.index-as_slice-round.result marks c.loop-round.invariant.rounds c.as_slice.ensures (omega (arith, c.loop-round.invariant.many)) c.index-as_slice-round.is c.as_slice-marks.ensures in
    let all = all_marked marks c.unmarked.result c.is_none.result c.unmarked.ensures c.is_none.ensures c.if-is_none.true in
    is_within g n c.args.most c.loop-round.order (omega arith) (all_of_round g n marks round all) c.loop-round.invariant.ordered c.loop-round.invariant.once c.loop-round.invariant.behind

pub next_marks-requires-clause-marks : goal.next_marks-requires-clause-marks
next_marks-requires-clause-marks c =
    let g = c.args.targets.now in
    let n = c.loop-round.round in
    let marks = c.as_slice-marks.result.now in
    let round : marks ≡ marks_of g n =
    round_read g c.loop-round.rounds c.as_slice.result.now n c.index-as_slice-round.result marks c.loop-round.invariant.rounds c.as_slice.ensures (omega (arith, c.loop-round.invariant.many)) c.index-as_slice-round.is c.as_slice-marks.ensures in
    ap length round ∙ length-marks g n

pub push_marked-requires : goal.push_marked-requires
push_marked-requires c =
    let g = c.args.targets.now in
    let n = c.loop-round.round in
    let marks = c.as_slice-marks.result.now in
    let round : marks ≡ marks_of g n =
    round_read g c.loop-round.rounds c.as_slice.result.now n c.index-as_slice-round.result marks c.loop-round.invariant.rounds c.as_slice.ensures (omega (arith, c.loop-round.invariant.many)) c.index-as_slice-round.is c.as_slice-marks.ensures in
    ap length round ∙ length-marks g n ∙ sym (ap length (c.as_slice-in-loop-round.ensures ∙ c.in_ok-next.ensures) ∙ length-next g marks)

pub loop-round-preserved : goal.loop-round-preserved
loop-round-preserved c =
    let g = c.args.targets.now in
    let n = c.loop-round.round in
    let marks = c.as_slice-marks.result.now in
    let rounds = c.loop-round.rounds in
    let order = c.loop-round.order in
    let is = c.loop-round.invariant in
    let round : marks ≡ marks_of g n = round_read g rounds c.as_slice.result.now n c.index-as_slice-round.result marks is.rounds c.as_slice.ensures (omega (arith, is.many)) c.index-as_slice-round.is c.as_slice-marks.ensures in
    let next : c.in_ok-next.next ≡ marks_of g (suc n) = c.in_ok-next.ensures ∙ ap (next_marks g) round in
    let longer : c.push-in-loop-round.new.self ≡ rounds ++ marks_of g (length rounds) ∷ [] = c.in_ok-push-2.ensures.ok ∙ ap (λ (ms : List Bool). rounds ++ ms ∷ []) (next ∙ ap (marks_of g) (sym (is.many ∙ add-one n))) in
    let grown : c.push_marked.new.order ≡ order ++ new_marks (marks_of g n) (marks_of g (suc n)) (length g) =
    c.in_ok-push_marked.ensures
    ∙ ap₂ (λ (bs ms : List Bool). order ++ new_marks bs ms (length ms)) round (c.as_slice-in-loop-round.ensures ∙ next)
    ∙ ap (λ k. order ++ new_marks (marks_of g n) (marks_of g (suc n)) k) (length-marks g (suc n)) in
    let more : suc n ≡ n + 1 = sym (add-one n) in
    record {
      many = omega (arith, ap length longer, length_push rounds (marks_of g (length rounds)), is.many);
      rounds = subst (AreRounds g) (sym longer) (rounds_push g rounds is.rounds);
      ordered = subst₂ (λ k ds. AreOrdered g (marks_of g k) ds) more (sym grown) (ordered_more g (marks_of g n) (marks_of g (suc n)) order is.ordered);
      marked = subst₂ (λ k ds. AreMarked (marks_of g k) ds) more (sym grown) (marked_more g n order c.requires.targets is.behind is.marked);
      once = subst AreOnce (sym grown) (once_more g (marks_of g n) (marks_of g (suc n)) order is.marked is.once);
      behind = subst (AreBehind g []) (sym grown) (behind_more g (marks_of g n) order c.requires.targets is.ordered is.behind);
    }

pub returns : goal.returns
returns c =
    let g = c.args.targets.now in
    let most = c.args.most in
    let marks = c.as_slice-3.result.now in
    let is = c.loop-round.invariant in
    let last : c.loop-round.round ≡ most = omega arith in
    let round : marks ≡ marks_of g most = round_read g c.loop-round.rounds c.as_slice-2.result.now most c.index-as_slice-most.result marks is.rounds c.as_slice-2.ensures (omega (arith, is.many)) c.index-as_slice-most.is c.as_slice-3.ensures in
    match_more c.unmarked-2.result
    (λ all. is_within g most most c.loop-round.order (omega arith) (all_of_round g most marks round all) (subst (λ n. AreOrdered g (marks_of g n) c.loop-round.order) last is.ordered) is.once is.behind)
    (λ d h. record { are = is.rounds; many = omega (arith, is.many); within = omega (arith, h.0, ap length round, length-marks g most); unmarked = subst (λ ms. mark ms d ≡ false) round h.1 })
    c.unmarked-2.ensures

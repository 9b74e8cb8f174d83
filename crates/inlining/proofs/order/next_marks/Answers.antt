use Rattle.std.proofs.Common.{◌≡◌, ◌<◌, ◌∙◌, ◌++◌, ◌∷◌, [], List, Bool, length, take, get_or, ap, sym, subst, arith}
use Rattle.std.proofs.lemmas.List.{map_more}
use Rattle.inlining.specs.Inlining.{targets_of, IsAmong}
use Rattle.inlining.specs.Marks.{are_marked, next_marks}
use Rattle.inlining.proofs.Among.{targets_at}
use Rattle.inlining.proofs.Marks.{none_unmarked}
use Rattle.inlining.proofs.order.next_marks.Goals as goal

pub unmarked_target-requires : goal.unmarked_target-requires
unmarked_target-requires c = λ t i.
    let g = c.args.targets.now in
    let at : c.loop-of.of-index < length g = omega arith in
    let of : c.as_slice.result.now ≡ targets_of g c.loop-of.of-index = c.as_slice.ensures ∙ c.of-item.is ∙ sym (targets_at g c.loop-of.of-index c.of-item.result at) in
    subst (λ n. t < n) (sym c.requires.marks) (c.requires.targets c.loop-of.of-index t (subst (IsAmong t) of i))

pub loop-of-preserved : goal.loop-of-preserved
loop-of-preserved c =
    let g = c.args.targets.now in
    let marks = c.args.marks.now in
    let at : c.loop-of.of-index < length g = omega arith in
    let of : c.as_slice.result.now ≡ get_or g c.loop-of.of-index c.of-item.result = c.as_slice.ensures ∙ c.of-item.is in
    let all : c.is_none.result ≡ are_marked marks (get_or g c.loop-of.of-index c.of-item.result) =
    none_unmarked marks c.as_slice.result.now c.unmarked_target.result c.is_none.result c.unmarked_target.ensures c.is_none.ensures ∙ ap (are_marked marks) of in
    c.in_ok-push.ensures.ok
    ∙ ap (λ (next : List Bool). next ++ c.is_none.result ∷ []) c.loop-of.invariant
    ∙ ap (λ b. next_marks (take c.loop-of.of-index g) marks ++ b ∷ []) all
    ∙ sym (map_more (are_marked marks) g c.loop-of.of-index c.of-item.result at)

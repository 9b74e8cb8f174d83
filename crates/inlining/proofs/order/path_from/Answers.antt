use Rattle.std.proofs.Common.{◌≡◌, ◌<◌, ◌∙◌, ◌-◌, ◌++◌, ◌∷◌, [], suc, length, false, IsTrue, refl, ap, sym, subst, arith}
use Rattle.std.proofs.lemmas.Bool.{false≢true}
use Rattle.std.proofs.lemmas.List.{length_push}
use Rattle.inlining.specs.Inlining.{targets_of, IsAmong, IsPath}
use Rattle.inlining.specs.Marks.{mark, are_marked, marks_of}
use Rattle.inlining.proofs.Among.{targets_at}
use Rattle.inlining.proofs.Marks.{mark-next, length-marks, round_read}
use Rattle.inlining.proofs.Paths.{path_push}
use Rattle.inlining.proofs.order.path_from.Goals as goal

pub unmarked_target-requires : goal.unmarked_target-requires
unmarked_target-requires c = λ t i.
    let g = c.args.targets.now in
    let place = c.loop-left.place in
    let left = c.loop-left.left - 1 in
    let of : c.as_slice-of.result.now ≡ targets_of g place = c.as_slice-of.ensures ∙ c.index-targets-place.is ∙ sym (targets_at g place c.index-targets-place.result c.loop-left.invariant.within) in
    let at : left < length c.args.rounds.now = omega (arith, c.requires.unmarked.many) in
    let round : c.as_slice.result.now ≡ marks_of g left = round_read g c.args.rounds.now c.args.rounds.now left c.index-rounds-left.result c.as_slice.result.now c.requires.unmarked.are refl at c.index-rounds-left.is c.as_slice.ensures in
    subst (λ n. t < n) (sym (ap length round ∙ length-marks g left)) (c.requires.targets place t (subst (IsAmong t) of i))

pub unreachable-requires : goal.unreachable-requires
unreachable-requires c =
    let g = c.args.targets.now in
    let place = c.loop-left.place in
    let left = c.loop-left.left - 1 in
    let of : c.as_slice-of.result.now ≡ targets_of g place = c.as_slice-of.ensures ∙ c.index-targets-place.is ∙ sym (targets_at g place c.index-targets-place.result c.loop-left.invariant.within) in
    let at : left < length c.args.rounds.now = omega (arith, c.requires.unmarked.many) in
    let round : c.as_slice.result.now ≡ marks_of g left = round_read g c.args.rounds.now c.args.rounds.now left c.index-rounds-left.result c.as_slice.result.now c.requires.unmarked.are refl at c.index-rounds-left.is c.as_slice.ensures in
    let more : c.loop-left.left ≡ suc left = omega arith in
    let unmarked : mark (marks_of g (suc left)) place ≡ false = subst (λ n. mark (marks_of g n) place ≡ false) more c.loop-left.invariant.unmarked in
    let none : are_marked (marks_of g left) (targets_of g place) ≡ false = sym (mark-next g (marks_of g left) place c.loop-left.invariant.within) ∙ unmarked in
    let all : IsTrue (are_marked c.as_slice.result.now c.as_slice-of.result.now) = c.in-None.ensures in
    false≢true (sym none ∙ subst (λ ms. IsTrue (are_marked ms (targets_of g place))) round (subst (λ ts. IsTrue (are_marked c.as_slice.result.now ts)) of all))

pub loop-left-preserved : goal.loop-left-preserved
loop-left-preserved c =
    let g = c.args.targets.now in
    let place = c.loop-left.place in
    let left = c.loop-left.left - 1 in
    let target = c.in-Some.target in
    let of : c.as_slice-of.result.now ≡ targets_of g place = c.as_slice-of.ensures ∙ c.index-targets-place.is ∙ sym (targets_at g place c.index-targets-place.result c.loop-left.invariant.within) in
    let at : left < length c.args.rounds.now = omega (arith, c.requires.unmarked.many) in
    let round : c.as_slice.result.now ≡ marks_of g left = round_read g c.args.rounds.now c.args.rounds.now left c.index-rounds-left.result c.as_slice.result.now c.requires.unmarked.are refl at c.index-rounds-left.is c.as_slice.ensures in
    let among : IsAmong target (targets_of g place) = subst (IsAmong target) of c.in-Some.ensures.0 in
    let within : target < length g = c.requires.targets place target among in
    let longer : c.push.new.self ≡ c.loop-left.path ++ place ∷ [] = c.in_ok-push.ensures.ok in
    record {
      within = within;
      path = subst (λ ds. IsPath g (ds ++ target ∷ [])) (sym longer) (path_push g c.loop-left.path place target c.loop-left.invariant.path within among);
      unmarked = subst (λ ms. mark ms target ≡ false) round c.in-Some.ensures.1;
      length = omega (arith, ap length longer, length_push c.loop-left.path place);
    }

use Rattle.std.proofs.Common.{◌≡◌, ◌-◌, ◌++◌, [], length, arith, sym, ap, subst, ◌∙◌, refl}
use Rattle.std.proofs.lemmas.Bool.{eqb-true}
use Rattle.std.proofs.lemmas.List.{nil_from_length}
use Rattle.std.proofs.lemmas.Str.{chars-nil}
use Rattle.std.specs.Str.{chars}
use Rattle.lexing.specs.Pieces.{Cuts}
use Rattle.lexing.proofs.RawLaws.{none_known}
use Rattle.lexing.proofs.StepLaws.{not_begun, told_uncut}
use Rattle.lexing.proofs.chunks.Chunks.new.Goals as goal

pub fronts-init : goal.fronts-init
fronts-init c =
    let source = c.args.source.now in
    let none : length source - length source ≡ 0 = omega arith in record {
      is_text = c.utf8.source;
      within = omega arith;
      known = none_known (chars source);
      joins = λ ps h. (ps, subst (λ v. Cuts ps v (chars source)) none h);
      leaves = λ all h. (all, subst (λ v. Cuts all v (chars source)) (sym none) h);
    }

pub fronts-preserved : goal.fronts-preserved
fronts-preserved c =
    let kept = c.fronts.invariant in
    let front = c.in-Ok.ensures.found in record {
      is_text = front.is_text;
      within = omega (arith, front.shorter, kept.within);
      known = front.known;
      joins = λ ps h. kept.joins (c.in-Ok.front.pieces ++ ps) (front.joins ps h);
      leaves = λ all h. let left = kept.leaves all h in front.leaves left.0 left.1;
    }

pub returns-in-Err-clause-refused : goal.returns-in-Err-clause-refused
returns-in-Err-clause-refused c = told_uncut c.args.source.now c.fronts.rest.now c.in-Err.e c.refusal.result c.fronts.invariant.leaves c.in-Err.ensures.refused c.refusal.ensures

pub returns-clause-begun : goal.returns-clause-begun
returns-clause-begun c =
    let rest = c.fronts.rest.now in
    let empty : rest ≡ [] = nil_from_length rest (eqb-true (length rest) 0 (sym c.fronts-test.ensures)) in
    let all = c.fronts.invariant.joins [] (ap chars empty ∙ chars-nil) in
    not_begun c.args.source.now c.args.source all.0 refl c.utf8.source all.1

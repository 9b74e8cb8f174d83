use Rattle.std.proofs.Common.{◌≡◌, ◌∙◌, ◌<◌, ◌+◌, ℕ, List, [], ◌∷◌, ◌++◌, length, take, true, sym, subst, ap, arith}
use Rattle.std.proofs.lemmas.Grind.{common_steps}
use Rattle.std.proofs.lemmas.List.{take_more}
use Rattle.std.proofs.lemmas.Result.{err_from_is_err_and}
use Rattle.texts.specs.Names.{is_in}
use Rattle.file_runs.specs.Contents.{IsTextAt}
use Rattle.file_runs.specs.Given.{AreFilesAt}
use Rattle.streams.specs.Faults.{CountsFault}
use Rattle.file_runs.specs.Words.{is_input}
use Rattle.file_runs.proofs.Paths.{one_more, held_back, is_at, input_at}
use Rattle.file_runs.proofs.reading.gather.Goals as goal

pub loop-path-preserved : goal.loop-path-preserved
loop-path-preserved g c =
    let at = c.loop-path.path-index in
    let paths = c.args.paths.now in
    let path = c.as_str.result.now in
    let less : at < length paths = omega arith in
    let item = c.path-item.result in
    let stands = is_at paths at item less c.path-item.is in
    let among = subst (λ v. is_in v paths ≡ true) (sym c.as_str.ensures) stands in
    let kept = c.loop-path.invariant in
    let added = c.in_ok-add_path.ensures in
    let next : take (at + 1) paths ≡ take at paths ++ path ∷ [] = take_more paths at item less ∙ ap (λ (v : List ℕ). take at paths ++ v ∷ []) (sym (c.as_str.ensures ∙ c.path-item.is)) in
    record {
      gathered = λ had has if.
          let so_far = kept.gathered had has if in
          let one = added.added had has (λ input. if (input_at paths path among input)) in
          let text = one.0 in
          let Has = IsTextAt (g.F.Files.tells c.args.files.now) (g.F.Files.held c.args.files.now) had has in
          let read = held_back (is_input path) _ _ _ _ had has text kept.tells (kept.held path) one.1 in
          let more = one_more Has (take at paths) so_far.0 path text so_far.1 read in
          (so_far.0 ++ record { name = path; bytes = text } ∷ [], subst (λ v. AreFilesAt Has v (so_far.0 ++ record { name = path; bytes = text } ∷ [])) (sym next) more, one.2 so_far.0 so_far.2);
      tells = added.tells_on ∙ kept.tells;
      held = λ other. added.same other ∙ kept.held other;
      faults = added.calm ∙ kept.faults;
    }

pub returns-clause-gathered : goal.returns-clause-gathered
returns-clause-gathered g c = λ had has if.
    let whole : take c.loop-path.path-index c.args.paths.now ≡ c.args.paths.now = grind (arith, common_steps) in
    let all = c.loop-path.invariant.gathered had has if in
    (all.0, subst (λ v. AreFilesAt (IsTextAt (g.F.Files.tells c.args.files.now) (g.F.Files.held c.args.files.now) had has) v all.0) whole all.1, all.2)

pub returns-in_err-add_path-clause-ending : goal.returns-in_err-add_path-clause-ending
returns-in_err-add_path-clause-ending g c =
    let p = err_from_is_err_and c.from_residual.result c.from_residual.ensures.1 in
    let at = c.loop-path.path-index in
    let paths = c.args.paths.now in
    let path = c.as_str.result.now in
    let less : at < length paths = omega arith in
    let among = subst (λ v. is_in v paths ≡ true) (sym c.as_str.ensures) (is_at paths at c.path-item.result less c.path-item.is) in
    let told = c.in_err-add_path.ensures in
    rw (p.1, p.2) (
      path,
      told.ending,
      λ fault. (
        among,
        told.named fault,
        let failed = told.failed fault in (subst (λ n. CountsFault n (g.F.Files.faults c.add_path.new.files)) c.loop-path.invariant.faults failed.0, failed.1, failed.2),
      ),
    )

use Rattle.std.proofs.Common.{rules, ◌≡◌, ◌∙◌, ◌+◌, ◌++◌, [], ◌∷◌, take, ap}
use Rattle.file_derivation.specs.declared.warned.Warnings.{Warnings}
use Rattle.file_derivation.proofs.Hundred.{told_more, told_full, count_more}
use Rattle.file_derivation.proofs.warned.Warnings.push.Goals as goal
use Rattle.file_derivation.proofs.warned.Warnings.push.Goals.{in-Some+in_ok-push, in_default}

pub returns : goal.returns
returns c = λ all one first is.
    let counted : c.in_ok-count.count ≡ c.args.self.now.count + 1 = search rules in
    let told : c.match-told-4.self.told ≡ take 100 (all ++ one ∷ []) = elim c.match-told-4.branch [
      | in-Some+in_ok-push w ↦ ap (λ (v : Warnings). v.told) w.self-is ∙ w.in_ok-push.ensures.ok ∙ told_more all c.args.self.now.told one w.in-Some.told c.args.self.now.count c.args.told first.0 first.1 is w.in-Some.is
      | in_default w ↦ ap (λ (v : Warnings). v.told) w.self-is ∙ told_full all c.args.self.now.told one c.args.self.now.count c.args.told first.0 first.1 is w.in_default.is
    ] in
    (told, counted ∙ count_more all one c.args.self.now.count first.1)

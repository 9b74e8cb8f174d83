use Rattle.std.proofs.Common.{◌++◌, ◌∷◌, [], ◌∙◌, ap, sym}
use Rattle.std.proofs.lemmas.List.{append_cancel_right}
use Rattle.file_runs.proofs.showing.without_line.Goals as goal

pub returns-in-Some : goal.returns-in-Some
returns-in-Some c = λ json is.
    let cut = c.in-Some.ensures.cases in
    append_cancel_right c.in-Some.rest.now json (10 ∷ []) (ap (λ x. x ++ 10 ∷ []) cut.2 ∙ sym cut.1.1 ∙ is)

pub returns-in-None : goal.returns-in-None
returns-in-None c = λ json is. absurd (c.in-None.ensures.cases json is)

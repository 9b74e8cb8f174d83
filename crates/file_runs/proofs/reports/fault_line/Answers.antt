use Rattle.std.proofs.Common.{◌≡◌, ◌∙◌, ◌++◌, IfOk, codes, ap, subst}
use Rattle.telling.specs.Printable.{printable}
use Rattle.file_runs.proofs.reports.fault_line.Goals as goal

pub returns : goal.returns
returns c = subst (λ v. IfOk c.printable.result (λ line. line ≡ printable v)) (c.as_str.ensures.value ∙ c.in_ok-line.ensures.ok ∙ ap (λ v. c.args.path.now ++ (codes ": cannot be read: " ++ (v ++ codes "\n"))) c.cause_text.ensures) c.printable.ensures

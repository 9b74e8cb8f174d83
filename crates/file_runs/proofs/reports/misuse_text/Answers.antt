use Rattle.std.proofs.Common.{◌≡◌, ◌∙◌, ◌++◌, IfOk, codes, ap, subst}
use Rattle.telling.specs.Printable.{printable}
use Rattle.file_runs.proofs.reports.misuse_text.Goals as goal

pub returns : goal.returns
returns c = subst (λ v. IfOk c.printable.result (λ line. line ≡ printable v)) (c.as_str-2.ensures.value ∙ c.in_ok-text.ensures.ok ∙ ap (λ v. v ++ codes "\nusage: schema_gen_file [OPTION].. [--] FILE..\n") (c.as_str.ensures.value ∙ c.in_ok-line.ensures)) c.printable.ensures

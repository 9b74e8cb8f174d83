use Rattle.file_runs.proofs.OptionFiles.{document_there, no_document_there}
use Rattle.file_runs.proofs.named.document_at.Goals as goal

pub returns-in-Some-2-clause-said : goal.returns-in-Some-2-clause-said
returns-in-Some-2-clause-said g c =
    document_there (g.F.Files.tells c.args.files.now) (g.F.Files.held c.args.files.now) c.in-Some.path _ _ _ c.as_str.ensures c.in_ok-read.ensures.bytes c.in_ok-value.ensures _ _ _ c.in-Some.is c.in_ok-copy-in-Some-2.ensures c.in-Some-2.is

pub returns-clause-ending : goal.returns-clause-ending
returns-clause-ending g c = (
  c.in-Some.path,
  c.in-Some.is,
  no_document_there (g.F.Files.tells c.args.files.now) (g.F.Files.held c.args.files.now) c.in-Some.path _ _ _ c.as_str.ensures c.in_ok-read.ensures.bytes c.in_ok-value.ensures _ _ c.as_str-in-None.ensures c.in_ok-document_line-in-None.ensures c.in-None.is,
  λ fault. cc,
)

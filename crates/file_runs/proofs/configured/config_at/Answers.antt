use Rattle.file_runs.proofs.Saying.{said_there, told_there, no_fault}
use Rattle.file_runs.proofs.configured.config_at.Goals as goal

pub returns-in-Ok-clause-said : goal.returns-in-Ok-clause-said
returns-in-Ok-clause-said g c =
    said_there (g.F.Files.tells c.args.files.now) (g.F.Files.held c.args.files.now) _ _ _ _ c.as_str.ensures c.in_ok-read.ensures.bytes _ _ c.in-Some.is c.in-Ok.ensures.said

pub returns-clause-ending : goal.returns-clause-ending
returns-clause-ending g c = (
  _,
  c.in-Some.is,
  told_there (g.F.Files.tells c.args.files.now) (g.F.Files.held c.args.files.now) _ _ _ _ c.as_str.ensures c.in_ok-read.ensures.bytes _ _ _ c.as_str-in-Err.ensures c.in-Err.ensures.refused c.ending_of.ensures,
  λ fault. absurd (no_fault _ _ _ _ c.ending_of.ensures fault),
)

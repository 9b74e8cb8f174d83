use Rattle.std.proofs.Common.{◌∙◌, ap}
use Rattle.configuration.specs.Configuration.{with_rows}
use Rattle.file_derivation.proofs.rows.push_rows_of.Goals as goal

pub returns : goal.returns
returns c = (c.in-Ok.rows, c.in-Ok.ensures.rows, c.in_ok-push_rows.ensures ∙ ap (with_rows c.args.config.now) c.as_slice.ensures)

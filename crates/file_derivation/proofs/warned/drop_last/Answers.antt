use Rattle.file_derivation.proofs.Hundred.{last_off}
use Rattle.file_derivation.proofs.warned.drop_last.Goals as goal

pub returns : goal.returns
returns c = last_off c.args.told.now c.remove-last.new.self c.len.result c.len.ensures c.requires.some c.remove-last.ensures.rest

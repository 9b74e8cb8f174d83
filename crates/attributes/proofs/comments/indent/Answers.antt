use Rattle.attributes.proofs.Margins.{indent_is}
use Rattle.attributes.proofs.comments.indent.Goals as goal

pub returns : goal.returns
returns c = indent_is c.args.line.now c.trim_ascii_start.result.now c.trim_ascii_start.ensures.value

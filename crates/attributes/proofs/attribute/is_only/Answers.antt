use Rattle.attributes.proofs.Words.{several_are_no_word}
use Rattle.attributes.proofs.attribute.is_only.Goals as goal

pub returns-in_default-2 : goal.returns-in_default-2
returns-in_default-2 c = several_are_no_word c.args.word.now c.args.segments.now c.in_default.len_at_least

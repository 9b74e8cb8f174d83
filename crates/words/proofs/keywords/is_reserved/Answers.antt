use Rattle.std.proofs.Common.{◌∙◌}
use Rattle.words.proofs.Reserved.{reserved_unless_small}
use Rattle.words.proofs.keywords.is_reserved.Goals as goal

pub returns-else-begins_small : goal.returns-else-begins_small
returns-else-begins_small c = c.eq.ensures ∙ reserved_unless_small c.args.text.now (search (c.begins_small.ensures, c.if-begins_small.false))

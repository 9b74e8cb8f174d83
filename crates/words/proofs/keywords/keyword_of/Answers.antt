use Rattle.std.proofs.Common.{sym, ◌∙◌}
use Rattle.words.proofs.Reserved.{no_keyword}
use Rattle.words.proofs.keywords.keyword_of.Goals as goal

pub returns-else-is_reserved : goal.returns-else-is_reserved
returns-else-is_reserved c = no_keyword c.args.text.now (sym c.is_reserved.ensures ∙ c.if-is_reserved.false)

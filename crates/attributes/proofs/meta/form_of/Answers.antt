use Rattle.std.proofs.Common.{arith}
use Rattle.words.specs.Words.{words_view}
use Rattle.words.proofs.Laws.{length_view}
use Rattle.attributes.proofs.Words.{value_after}
use Rattle.attributes.proofs.meta.form_of.Goals as goal

pub returns-in-len1-up-value : goal.returns-in-len1-up-value
returns-in-len1-up-value c = value_after (words_view c.args.trees.now) (c.in_ok-value-in_default.field-0-0, words_view c.in_ok-value-in_default.value.now) c.in_ok-value-in_default.ensures.value (omega (arith, length_view c.in_ok-value-in_default.value.now, c.in-len1-up-value.len_at_least))

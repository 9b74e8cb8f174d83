use Rattle.std.proofs.Common.{arith}
use Rattle.schema_gen.specs.Words.{IsDerive}
use Rattle.schema_gen.proofs.OneWord.{one_word, not_one}
use Rattle.schema_gen.proofs.command.is_derive.Goals as goal

pub returns-then-words-ne1 : goal.returns-then-words-ne1
unfolding IsDerive
returns-then-words-ne1 c = not_one c.as_slice-words.result.now _ _ c.as_slice-words.ensures (λ e. grind arith)

pub returns : goal.returns
unfolding IsDerive
returns c = one_word c.as_slice-words.result.now _ c.index-words-0.result c.as_str.result.now _ _ c.as_slice-words.ensures (grind arith) c.index-words-0.is c.as_str.ensures.value c.eq.ensures

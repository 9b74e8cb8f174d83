use Rattle.std.proofs.Common.{sym, ◌∙◌, arith}
use Rattle.schema_gen.specs.Words.{IsSample}
use Rattle.schema_gen.proofs.ThreeWords.{first_text, same_bytes, other_bytes}
use Rattle.schema_gen.proofs.TwoWords.{two_words, not_two, sized}
use Rattle.schema_gen.proofs.command.sample_size.Goals as goal

pub returns-then-words-ne2 : goal.returns-then-words-ne2
unfolding IsSample
returns-then-words-ne2 c = λ n samples. not_two c.as_slice-words.result.now _ _ _ c.as_slice-words.ensures (λ two. grind arith) samples.0

pub returns-then-ne : goal.returns-then-ne
unfolding IsSample
returns-then-ne c = λ n samples.
    other_bytes _ _ _ c.ne.ensures c.if-ne.true (c.as_str.ensures.value ∙ first_text c.as_slice-words.result.now _ _ _ c.index-words-0.is (c.as_slice-words.ensures ∙ samples.0))

pub returns : goal.returns
returns c =
    let are = two_words c.as_slice-words.result.now _ _ _ _ _ c.as_slice-words.ensures (grind arith) c.index-words-0.is c.index-words-1.is (sym c.as_str.ensures.value ∙ same_bytes _ _ _ c.ne.ensures c.if-ne.false) c.as_str-2.ensures.value in
    sized c.args.words.now c.as_str-2.result.now c.size_of.result are c.size_of.ensures

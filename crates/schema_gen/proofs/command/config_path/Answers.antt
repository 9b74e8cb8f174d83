use Rattle.std.proofs.Common.{sym, ◌∙◌, arith}
use Rattle.schema_gen.specs.Words.{IsDerive}
use Rattle.schema_gen.proofs.ThreeWords.{three_words, not_three, first_text, second_text, same_bytes, other_bytes}
use Rattle.schema_gen.proofs.command.config_path.Goals as goal
use Rattle.schema_gen.proofs.command.config_path.Goals.{then-ne-via-then-ne, then-ne-via-else-ne+then-ne-2}

pub returns-then-words-ne3 : goal.returns-then-words-ne3
unfolding IsDerive
returns-then-words-ne3 c = λ path e. not_three c.as_slice-words.result.now _ _ _ _ c.as_slice-words.ensures (λ three. grind arith) e

pub returns-then-ne : goal.returns-then-ne
unfolding IsDerive
returns-then-ne c = λ path e.
    let words = c.as_slice-words.result.now in
    elim c.then-ne.branch [
      | then-ne-via-then-ne w ↦ other_bytes _ _ _ c.ne.ensures w.if-ne.true (c.as_str.ensures.value ∙ first_text words _ _ _ c.index-words-0.is (c.as_slice-words.ensures ∙ e))
      | then-ne-via-else-ne+then-ne-2 w ↦
          other_bytes _ _ _ w.ne-else-ne.ensures w.if-ne-2.true (w.as_str-else-ne.ensures.value ∙ second_text words _ _ _ _ w.index-words-1.is (c.as_slice-words.ensures ∙ e))
    ]

pub returns : goal.returns
unfolding IsDerive
returns c =
    three_words c.as_slice-words.result.now _ _ _ _ _ _ _ c.as_slice-words.ensures (grind arith) c.index-words-0.is c.index-words-1.is c.index-words-2.is
    (sym c.as_str.ensures.value ∙ same_bytes _ _ _ c.ne.ensures c.if-ne.false) (sym c.as_str-else-ne.ensures.value ∙ same_bytes _ _ _ c.ne-else-ne.ensures c.if-ne-2.false)
    c.as_str-2.ensures.value

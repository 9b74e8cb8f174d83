use Rattle.std.proofs.Common.{◌∙◌, sym}
use Rattle.words.specs.Words.{words_view}
use Rattle.syntax.proofs.Inner.{inner_step, inner_stop}
use Rattle.syntax.proofs.beginning.after_inner.Goals as goal

pub inner-preserved : goal.inner-preserved
inner-preserved c = sym (inner_step (words_view c.inner.rest.now) (words_view c.in-Some.after.now) c.in-Some.ensures.value) ∙ c.inner.invariant

pub returns : goal.returns
returns c = sym (inner_stop (words_view c.inner.rest.now) c.in_default.ensures.value) ∙ c.inner.invariant

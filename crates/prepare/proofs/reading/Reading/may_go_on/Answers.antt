use Rattle.std.proofs.Common.{◌∙◌, ap, map}
use Rattle.tokens.specs.Trees.{tree_view}
use Rattle.prepare.specs.Attributes.{after_inner}
use Rattle.prepare.proofs.Read.{enough_left}
use Rattle.prepare.proofs.reading.Reading.may_go_on.Goals as goal

pub returns-then-not-self-clause-enough : goal.returns-then-not-self-clause-enough
returns-then-not-self-clause-enough c = λ few more follow.
    enough_left c.args.self.now.window c.after_inner.result.now (c.after_inner.ensures ∙ ap (λ ts. after_inner (map tree_view ts)) c.as_slice.ensures) few more

use Rattle.std.proofs.Common.{◌∙◌, ap₂}
use Rattle.words.specs.Words.{cover, span_of, word_of}
use Rattle.tokens.specs.Trees.{tree_view}
use Rattle.syntax.proofs.Turns.{spanning_is}
use Rattle.syntax.proofs.scope.spanning.Goals as goal

pub returns : goal.returns
returns c =
    c.covering.ensures
    ∙ ap₂ cover c.span_of.ensures c.span_of-2.ensures
    ∙ ap₂ (λ first last. cover (span_of (word_of (tree_view first))) (span_of (word_of (tree_view last)))) c.index-trees-0.is c.index-trees-last.is
    ∙ spanning_is c.args.trees.now c.args.rest.now _ _ c.requires

use Rattle.syntax.specs.ItemDepth.{OpensSource}
use Rattle.type_grammar.proofs.Laws.{one_place, nests_once}
use Rattle.syntax.proofs.Deep.{source_agrees}
use Rattle.syntax.proofs.law.one_deep_place.Goals as goal

pub returns : goal.returns
returns c =
    nests_once c.one_cut.ensures c.one_deep_bracket.ensures c.deep_brackets_nest_deep.ensures OpensSource
    (λ ws x y o p. one_place source_agrees ws x y o p)

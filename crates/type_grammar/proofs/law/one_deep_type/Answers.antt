use Rattle.type_grammar.specs.declared.starts.Bounds.TheVariants.{Any}
use Rattle.type_grammar.specs.Opening.{OpensType, most_levels}
use Rattle.type_grammar.proofs.Deep.{one_place, type_agrees}
use Rattle.type_grammar.proofs.TypeText.{nests_once}
use Rattle.type_grammar.proofs.law.one_deep_type.Goals as goal

pub returns : goal.returns
returns c =
    nests_once c.one_cut.ensures c.one_deep_bracket.ensures c.deep_brackets_nest_deep.ensures (OpensType most_levels)
    (λ ws x y o p. one_place (type_agrees most_levels Any) ws x y o p)

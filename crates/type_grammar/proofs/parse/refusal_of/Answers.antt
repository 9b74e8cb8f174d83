use Rattle.std.proofs.Common.{subst, sym, arith, ◌≤◌}
use Rattle.type_grammar.specs.Source.{IsRefusalOf}
use Rattle.type_grammar.proofs.TypeText.{placed}
use Rattle.type_grammar.proofs.parse.refusal_of.Goals as goal

pub returns-in-Unexpected : goal.returns-in-Unexpected
returns-in-Unexpected c = subst (λ s. IsRefusalOf s c.args.bytes c.syntax.result) (sym c.in-Unexpected.is) (placed c.args.bytes c.syntax.result c.within.result c.syntax.ensures c.within.ensures)

pub returns-in-Ended : goal.returns-in-Ended
returns-in-Ended c =
    let here : c.args.bytes ≤ c.args.bytes = omega arith in
    subst (λ s. IsRefusalOf s c.args.bytes c.syntax-in-Ended.result) (sym c.in-Ended.is) (placed c.args.bytes c.syntax-in-Ended.result _ c.syntax-in-Ended.ensures here)

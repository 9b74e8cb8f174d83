use Rattle.std.proofs.Common.{◌∙◌, sym}
use Rattle.std.proofs.lemmas.Bool.{false≢true}
use Rattle.resolving.proofs.Counted.{tuple_of-some}
use Rattle.resolving.proofs.resolve.tuple_of.Goals as goal

pub returns-else-is_empty : goal.returns-else-is_empty
returns-else-is_empty c = tuple_of-some c.args.items (λ e. false≢true (sym c.if-is_empty.false ∙ c.is_empty.ensures.1 e))

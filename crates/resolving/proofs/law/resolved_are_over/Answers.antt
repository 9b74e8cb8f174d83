use Rattle.std.proofs.Common.{leb, cond, ◌≡◌, Bool, true, false, Some, None, Option}
use Rattle.std.proofs.lemmas.Option.{none-some}
use Rattle.open_types.specs.Open.{Open}
use Rattle.resolving.specs.Aliases.{expanded_type}
use Rattle.resolving.specs.Names.{size}
use Rattle.resolving.specs.Resolved.{most_names, type_of}
use Rattle.resolving.proofs.Over.{type_over}
use Rattle.resolving.proofs.law.resolved_are_over.Goals as goal

passed : (b : Bool) (o : Option Open) (u : Open) → cond b o None ≡ Some u → o ≡ Some u
passed true o u e = e
passed false o u e = absurd (none-some u e)

pub returns : goal.returns
returns c = λ known n below itself within t u e. type_over known n below itself within (expanded_type known t) u (passed (leb (size known (expanded_type known t)) most_names) (type_of known (expanded_type known t)) u e)

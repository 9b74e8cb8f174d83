use Rattle.std.proofs.Common.{◌≡◌, ◌++◌, Bool, not, subst}
use Rattle.file_derivation.proofs.Written.{some_where}
use Rattle.file_derivation.specs.Warned.{has_some, told_nothing, AreFirst}
use Rattle.file_derivation.proofs.selected.with_warnings.Goals as goal

pub returns-clause-warned : goal.returns-clause-warned
returns-clause-warned c = λ all first.
    let is_described : not c.is_empty-is_described.result ≡ has_some c.args.composition = some_where c.is_empty-is_described.result c.args.composition c.is_empty-is_described.ensures in
    subst (λ (b : Bool). AreFirst (all ++ told_nothing c.args.is_declared b) c.add_nothing.new.self) is_described (c.in_ok-add_nothing.ensures all first)

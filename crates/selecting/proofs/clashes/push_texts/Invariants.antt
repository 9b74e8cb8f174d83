use Rattle.std.proofs.Common.{◌≡◌, ◌++◌, length}
use Rattle.scopes.specs.Names.{texts}
use Rattle.selecting.proofs.clashes.push_texts.Given as goal

abbrev pub invariant-idents : goal.invariant-idents
invariant-idents l = l.names ++ texts l.rest ≡ l.initial.names ++ texts l.idents

abbrev pub decreases-idents : goal.decreases-idents
decreases-idents l = length l.rest

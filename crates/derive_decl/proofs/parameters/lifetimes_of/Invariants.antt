use Rattle.std.proofs.Common.{◌≡◌, take, map}
use Rattle.syntax.specs.Items.{parameter_view}
use Rattle.derive_decl.specs.Lifetimes.{lifetimes_of}
use Rattle.derive_decl.proofs.parameters.lifetimes_of.Given as goal

-- the lifetimes so far
abbrev pub invariant-loop-param : goal.invariant-loop-param
invariant-loop-param l = l.names ≡ lifetimes_of (map parameter_view (take l.param-index l.params))

use Rattle.std.proofs.Common.{◌≡◌, ap, sym, ◌∙◌, length, arith}
use Rattle.schema_trees.specs.Schema.{schema_view}
use Rattle.schema_core.proofs.EntryLaws.{length-viewed}
use Rattle.schema_core.proofs.components_iter.ComponentsIterIterator.size_hint.Goals as goal

pub returns : goal.returns
returns c =
    let left : length c.args.self.now ≡ length c.self.inside.names.now =
    sym (ap length c.self.view_is) ∙ length-viewed schema_view c.self.inside.names.now c.self.inside.schemas.now c.self.invariant in
    record { lower = λ _. omega (arith, left); upper = (tt, omega (arith, left)) }

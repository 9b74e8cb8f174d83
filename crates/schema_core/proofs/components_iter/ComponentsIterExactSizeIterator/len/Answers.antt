use Rattle.std.proofs.Common.{◌≡◌, ap, sym, ◌∙◌, length}
use Rattle.schema_trees.specs.Schema.{schema_view}
use Rattle.schema_core.proofs.EntryLaws.{length-viewed}
use Rattle.schema_core.proofs.components_iter.ComponentsIterExactSizeIterator.len.Goals as goal

pub returns-clause-value : goal.returns-clause-value
returns-clause-value c =
    let left : length c.args.self.now ≡ length c.self.inside.names.now =
    sym (ap length c.self.view_is) ∙ length-viewed schema_view c.self.inside.names.now c.self.inside.schemas.now c.self.invariant in
    sym left

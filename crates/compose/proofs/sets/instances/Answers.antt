use Rattle.syntax.specs.Items.{declarations_view}
use Rattle.compose.proofs.Counts.{as-many}
use Rattle.compose.proofs.sets.instances.Goals as goal

pub within_bounds-requires-clause-many : goal.within_bounds-requires-clause-many
within_bounds-requires-clause-many c =
    as-many c.args.terms.now.idents c.as_slice-idents.result.now c.args.terms.now.resolved c.as_slice-resolved.result.now (declarations_view c.args.declarations.now) c.as_slice-idents.ensures c.as_slice-resolved.ensures c.requires.idents c.requires.settled.names

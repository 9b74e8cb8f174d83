use Rattle.std.proofs.Common.{◌≡◌, sym, ap, subst, ◌∙◌, rules}
use Rattle.std.proofs.lemmas.Iterator.Consumers.{YieldsList-from_first}
use Rattle.std.proofs.lemmas.List.{length-map}
use Rattle.schema_core.specs.Entries.{IsInOrder, entry_names}
use Rattle.schema_core.specs.Lent.{lent_entry}
use Rattle.schema_trees.specs.Schema.{schema_view}
use Rattle.schema_core.proofs.EntryLaws.{entry_names-entries_of}
use Rattle.schema_core.proofs.components.Components.iter.Goals as goal

pub returns-clause-all : goal.returns-clause-all
returns-clause-all c = (YieldsList-from_first lent_entry (λ left. left) c.args.self.now (search rules)).runs

pub returns-clause-order : goal.returns-clause-order
returns-clause-order c =
    let even = c.self.invariant.0 ∙ sym (length-map c.self.inside.schemas schema_view) in
    let left : c.new.result ≡ c.args.self.now = search rules in
    subst IsInOrder (sym (entry_names-entries_of c.self.inside.names _ even) ∙ ap entry_names (c.self.view_is ∙ sym left)) c.self.invariant.1

use Rattle.std.proofs.Common.{sym, ap, ◌∙◌}
use Rattle.std.proofs.lemmas.List.{length-map}
use Rattle.schema_core.specs.Entries.{entry_names}
use Rattle.schema_trees.specs.Schema.{schema_view}
use Rattle.schema_core.proofs.EntryLaws.{entry_names-entries_of}
use Rattle.schema_core.proofs.components.Components.names.Goals as goal

pub returns-clause-names : goal.returns-clause-names
returns-clause-names c =
    c.as_slice.ensures ∙ sym (entry_names-entries_of c.self.inside.names _ (c.self.invariant.0 ∙ sym (length-map c.self.inside.schemas schema_view))) ∙ ap entry_names c.self.view_is

use Rattle.std.proofs.Common.{◌≡◌, ◌++◌, List}
use Rattle.schema_core.specs.Document.{Entry}
use Rattle.schema_core.specs.Writes.{HasEntries}
use Rattle.schema_core.proofs.components.Components.to_text_by.Given as goal

-- the text has the entries so far, and behind them stand those that are left
abbrev pub invariant-loop-name : goal.invariant-loop-name
invariant-loop-name l = (done : List Entry) × (done ++ l.name-iterator ≡ l.self) × HasEntries l.initial.text.by done l.text

use Rattle.std.proofs.Common.{◌∙◌, ◌++◌, [], List, length, map, ap, sym, subst, append_assoc}
use Rattle.std.specs.Borrow.{Bor}
use Rattle.std.proofs.lemmas.List.{length-map}
use Rattle.configuration.specs.Configuration.{Configuration}
use Rattle.syntax.specs.Items.{declarations_view}
use Rattle.prepare.specs.declared.file_items.FileItem.{FileItem}
use Rattle.telling.specs.declared.told.Told.{Told}
use Rattle.gathering.specs.Reading.{AreRead}
use Rattle.file_derivation.specs.Rounds.{CanBeRead, LeavesFaults}
use Rattle.file_derivation.specs.Outcomes.{some_are}
use Rattle.file_derivation.proofs.Stages.{as_many}
use Rattle.file_derivation.proofs.selected.left_of.Goals as goal

abbrev shown : List (Bor FileItem) → List FileItem
shown items = map (λ i. i.now) items

pub read_whole-requires : goal.read_whole-requires
read_whole-requires c = record { readable = subst (λ (v : List (Bor FileItem)). CanBeRead (shown v)) (sym c.as_slice.ensures) c.in_ok-readable.ensures.readable }

pub leave_faults-requires : goal.leave_faults-requires
leave_faults-requires c = record {
  read = subst (λ (v : List (Bor FileItem)). AreRead c.args.names.now (shown v) (shown c.in_ok-reading.reading.from) (declarations_view c.in_ok-reading.reading.declarations) []) c.as_slice.ensures c.in_ok-reading.ensures.read;
  named = c.in_ok-reading.ensures.named;
}

pub returns-clause-left : goal.returns-clause-left
returns-clause-left c = λ skip.
    let s = c.args.selection.now in
    let names = c.args.names.now in
    let texts = c.in_ok-readable.ensures.leaves in
    let leaves = c.in_ok-leave_faults.ensures.leaves in
    let configured = c.in_ok-push_rows_of.ensures.2 in
    let readable = shown c.in_ok-readable.readable in
    let read = subst (λ (v : List (Bor FileItem)). AreRead names (shown v) (shown c.in_ok-reading.reading.from) (declarations_view c.in_ok-reading.reading.declarations) []) c.as_slice.ensures c.in_ok-reading.ensures.read in
    let faulty = subst (λ (v : Configuration). LeavesFaults s v names readable leaves.0 leaves.1) configured leaves.2 in
    let lines = leaves.4 ∙ ap (λ (v : List Told). v ++ leaves.0) texts.2 ∙ append_assoc c.args.lines.now texts.0 leaves.0 in
    (texts.0 ++ leaves.0, c.in_ok-push_rows_of.ensures.0, some_are skip c.requires.few texts.1 read c.in_ok-push_rows_of.ensures.1 faulty leaves.3, configured, lines)

pub returns-clause-many : goal.returns-clause-many
returns-clause-many c = sym (length-map c.in_ok-leave_faults.field-0.from (λ i. i.now)) ∙ as_many c.in_ok-leave_faults.ensures.leaves.3

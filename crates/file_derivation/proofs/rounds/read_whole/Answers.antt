use Rattle.std.proofs.Common.{List, map, subst}
use Rattle.std.specs.Borrow.{Bor}
use Rattle.syntax.specs.Items.{declarations_view}
use Rattle.gathering.specs.Reading.{AreRead}
use Rattle.prepare.specs.declared.file_items.FileItem.{FileItem}
use Rattle.file_derivation.proofs.Readable.{none_told}
use Rattle.file_derivation.proofs.rounds.read_whole.Goals as goal

abbrev shown : List (Bor FileItem) → List FileItem
shown items = map (λ i. i.now) items

pub returns-clause-read : goal.returns-clause-read
returns-clause-read c =
    let reading = c.in_ok-read_items.field-0 in
    let names = c.args.names.now in
    let items = shown c.args.items.now in
    let from = shown reading.from in
    let ds = declarations_view reading.declarations in
    let read = c.in_ok-read_items.ensures.read in
    subst (AreRead names items from ds) (none_told c.one_reading_of_items.ensures names items from ds reading.faults c.requires.readable read) read

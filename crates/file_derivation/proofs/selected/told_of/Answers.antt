use Rattle.std.proofs.Common.{◌≡◌, ◌∙◌, ◌++◌, [], ◌∷◌, List, length, map, ap, sym, subst, inl, inr}
use Rattle.std.specs.Borrow.{Bor}
use Rattle.std.proofs.lemmas.List.{length-map}
use Rattle.syntax.specs.Items.{DeclaredItem, declarations_view}
use Rattle.prepare.specs.declared.file_items.FileItem.{FileItem}
use Rattle.telling.specs.declared.told.Told.{Told}
use Rattle.gathering.specs.Telling.{told_unplaced}
use Rattle.file_derivation.specs.Faults.{AreFaults}
use Rattle.file_derivation.specs.Helps.{origin_of}
use Rattle.file_derivation.proofs.Stages.{as_many, some_told, none_told}
use Rattle.file_derivation.proofs.selected.told_of.Goals as goal
use Rattle.file_derivation.proofs.selected.told_of.Goals.{then-is_empty+in_ok-told_unplaced+in_ok-push, else-is_empty}

abbrev shown : List (Bor FileItem) → List FileItem
shown items = map (λ i. i.now) items

pub faults_of-requires-clause-many : goal.faults_of-requires-clause-many
faults_of-requires-clause-many c = ap length c.as_slice-from.ensures ∙ sym (length-map c.in_ok-reading.reading.from (λ i. i.now)) ∙ as_many c.in_ok-reading.ensures.read

pub returns : goal.returns
returns c = λ from ds are.
    let config = c.args.config.now in
    let s = c.args.selection.now in
    let names = c.args.names.now in
    let es = declarations_view c.in_ok-reading.reading.declarations in
    let others = shown c.in_ok-reading.reading.from in
    let faults = c.in_ok-faults.faults in
    let one = c.one_reading_of_items.ensures names (shown c.args.items.now) from others ds es c.in_ok-reading.reading.faults are c.in_ok-reading.ensures.read in
    let own = subst (λ (v : List (Bor FileItem)). AreFaults config es (origin_of names s (shown v)) (length es) faults) c.as_slice-from.ensures (subst (λ excluded. AreFaults config es (record { names = names; excluded = excluded; from = shown c.as_slice-from.result.now }) (length es) faults) c.as_slice-excluded.ensures c.in_ok-faults.ensures) in
    let placed = subst (λ (v : List FileItem). AreFaults config es (origin_of names s v) (length es) faults) (sym one.0) own in
    let mine = subst (λ (v : List DeclaredItem). AreFaults config v (origin_of names s from) (length v) faults) (sym one.1) placed in
    elim c.if-is_empty.branch [
      | then-is_empty+in_ok-told_unplaced+in_ok-push w ↦
          let none = none_told c.is_empty.result c.is_empty.ensures w.if-is_empty.true in
          let told : c.if-is_empty.faults ≡ told_unplaced [] c.args.refusal.now ∷ [] =
          w.faults-is ∙ w.in_ok-push.ensures.ok ∙ ap (λ (v : List Told). v ++ w.in_ok-told_unplaced.field-0 ∷ []) none ∙ ap (λ (t : Told). t ∷ []) w.in_ok-told_unplaced.ensures in
          inr (subst (AreFaults config ds (origin_of names s from) (length ds)) none mine, told)
      | else-is_empty w ↦
          let some = some_told c.is_empty.result c.is_empty.ensures w.if-is_empty.false in
          inl (subst (AreFaults config ds (origin_of names s from) (length ds)) (sym w.faults-is) mine, λ none. some (sym w.faults-is ∙ none))
    ]

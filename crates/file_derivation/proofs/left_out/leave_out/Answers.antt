use Rattle.std.proofs.Common.{◌∙◌, ◌<◌, ◌++◌, List, length, map, true, false, refl, ap, subst, append_assoc}
use Rattle.std.specs.BTreeMap.{get_by_text}
use Rattle.std.specs.Borrow.{Bor}
use Rattle.std.proofs.lemmas.List.{length-map}
use Rattle.prepare.specs.declared.file_items.FileItem.{FileItem}
use Rattle.telling.specs.declared.told.Told.{Told}
use Rattle.file_derivation.specs.LeftOut.{lines_of}
use Rattle.file_derivation.specs.OutNodes.{is_reached}
use Rattle.file_derivation.proofs.Out.{one_round, fewer_kept}
use Rattle.file_derivation.proofs.left_out.leave_out.Goals as goal

abbrev shown : List (Bor FileItem) → List FileItem
shown items = map (λ i. i.now) items

pub returns-clause-round : goal.returns-clause-round
returns-clause-round c =
    let names = c.args.names.now in
    let items = shown c.args.items.now in
    let judged = c.args.judged.now in
    let is_out = is_reached (get_by_text c.in_ok-left.left) in
    let is_faulty = is_reached (get_by_text c.in_ok-sound.sound) in
    let faults = lines_of true names is_out is_faulty judged in
    let needs = lines_of false names is_out is_faulty judged in (
      faults ++ needs,
      one_round names items judged c.requires.within (get_by_text c.in_ok-left.left) c.in_ok-left.ensures (get_by_text c.in_ok-sound.sound) c.in_ok-sound.ensures (faults ++ needs) _ refl c.in_ok-kept_of.ensures,
      c.in_ok-push_lines-2.ensures ∙ ap (λ (v : List Told). v ++ needs) c.in_ok-push_lines.ensures ∙ append_assoc c.args.lines.now faults needs,
    )

pub returns-clause-fewer : goal.returns-clause-fewer
returns-clause-fewer c = λ some.
    let items = shown c.args.items.now in
    let judged = c.args.judged.now in
    let kept = c.in_ok-kept_of.field-0 in
    let less = fewer_kept c.args.names.now items judged c.requires.within (get_by_text c.in_ok-left.left) c.in_ok-left.ensures (get_by_text c.in_ok-sound.sound) c.in_ok-sound.ensures (shown kept) c.in_ok-kept_of.ensures some in
    subst (λ n. n < length c.args.items.now) (length-map kept (λ i. i.now)) (subst (λ n. length (shown kept) < n) (length-map c.args.items.now (λ i. i.now)) less)

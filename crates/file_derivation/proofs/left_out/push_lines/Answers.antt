use Rattle.std.proofs.Common.{◌∙◌, ◌++◌, ◌-◌, ℕ, List, Bool, length, take, drop, ap, sym, append_assoc}
use Rattle.std.specs.BTreeMap.{get_by_text}
use Rattle.telling.specs.declared.told.Told.{Told}
use Rattle.file_derivation.specs.LeftOut.{line, picks, line_if, lines_of}
use Rattle.file_derivation.specs.OutNodes.{is_reached}
use Rattle.file_derivation.proofs.Written.{split_first}
use Rattle.file_derivation.proofs.left_out.push_lines.Goals as goal

pub judged-preserved : goal.judged-preserved
judged-preserved c =
    let at_fault = c.args.at_fault in
    let names = c.args.names.now in
    let x = c.first-item.result in
    let is_out : List ℕ → Bool = is_reached (get_by_text c.args.left.now) in
    let is_faulty : List ℕ → Bool = is_reached (get_by_text c.args.sound.now) in
    let one = line_if (picks at_fault (is_out x.item.now.declared.name) (is_faulty x.item.now.declared.name)) (line names is_out is_faulty x.item.now x.verdict) in
    let split = split_first c.judged.rest.now x c.in-len1-up.len_at_least c.first-item.is in
    let more = lines_of at_fault names is_out is_faulty (take (length c.judged.rest.now - 1) (drop 1 c.judged.rest.now)) in
    ap (λ (v : List Told). v ++ more) c.in_ok-push_line.ensures
    ∙ append_assoc c.judged.lines one more
    ∙ ap (λ (v : List Told). c.judged.lines ++ v) (sym (ap (lines_of at_fault names is_out is_faulty) split))
    ∙ c.judged.invariant

use Rattle.std.proofs.Common.{◌≡◌, ◌++◌, ℕ, List, Bool, length}
use Rattle.std.specs.BTreeMap.{get_by_text}
use Rattle.file_derivation.specs.LeftOut.{lines_of}
use Rattle.file_derivation.specs.OutNodes.{is_reached}
use Rattle.file_derivation.proofs.left_out.push_lines.Given as goal

abbrev pub invariant-judged : goal.invariant-judged
invariant-judged l =
    let is_out : List ℕ → Bool = is_reached (get_by_text l.left) in
    let is_faulty : List ℕ → Bool = is_reached (get_by_text l.sound) in
    l.lines ++ lines_of l.at_fault l.names is_out is_faulty l.rest ≡ l.fn.lines ++ lines_of l.at_fault l.names is_out is_faulty l.judged

abbrev pub decreases-judged : goal.decreases-judged
decreases-judged l = length l.rest

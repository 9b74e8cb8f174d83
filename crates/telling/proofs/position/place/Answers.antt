use Rattle.std.proofs.Common.{◌≡◌, ◌∙◌, ◌≤◌, ◌<◌, ◌++◌, length, get_or, take, drop, ap, ◌+◌, refl, ap₂, sym, arith, true, false, ℕ, List, min}
use Rattle.std.proofs.lemmas.List.{take_min, drop_min}
use Rattle.telling.specs.Positions.{behind_feeds, before_feed, without_return}
use Rattle.telling.proofs.Lines.{at_first, past_feed, past_other, line_text, end_boundary}
use Rattle.telling.proofs.position.place.Goals as goal
use Rattle.telling.proofs.position.place.Goals.{then-bytes-at-eq10, else-bytes-at-eq10+then-begins_char, else-bytes-at-eq10+else-begins_char}

pub loop-at-init : goal.loop-at-init
loop-at-init c = at_first c.as_bytes-bytes.result.now c.args.text.now c.utf8.text

pub loop-at-preserved : goal.loop-at-preserved
loop-at-preserved c =
    let bytes = c.as_bytes-bytes.result.now in
    let text = c.args.text.now in
    let at = c.loop-at.at in
    let line = c.loop-at.line in
    let column = c.loop-at.column in
    let start = c.loop-at.start in
    let less : at < length bytes = omega arith in
    let same = c.as_bytes-bytes.ensures.value in
    elim c.if-bytes-at-eq10.branch [
      | then-bytes-at-eq10 w ↦
          rw (w.line-is, w.column-is, w.start-is) (past_feed bytes text at line column start (get_or bytes at 0) c.loop-at.invariant less refl same c.utf8.text w.if-bytes-at-eq10.true)
      | else-bytes-at-eq10+then-begins_char w ↦
          rw (w.line-is, w.column-is, w.start-is)
          (past_other bytes text at line column start (get_or bytes at 0) c.loop-at.invariant less refl same true (sym w.begins_char.ensures ∙ w.if-begins_char.true) w.if-bytes-at-eq10.false (column + 1) refl)
      | else-bytes-at-eq10+else-begins_char w ↦
          rw (w.line-is, w.column-is, w.start-is)
          (past_other bytes text at line column start (get_or bytes at 0) c.loop-at.invariant less refl same false (sym w.begins_char.ensures ∙ w.if-begins_char.false) w.if-bytes-at-eq10.false column (omega arith))
    ]

pub range-requires-clause-end_boundary : goal.range-requires-clause-end_boundary
range-requires-clause-end_boundary c =
    let within : c.min-offset.result ≤ length c.args.text.now = let same = ap length c.as_bytes-bytes.ensures.value in omega (arith, same) in
    let ends = rw c.as_bytes-bytes.ensures.value at c.line_end-end.ensures in
    end_boundary c.args.text.now c.min-offset.result c.line_end-end.result within ends

pub returns-clause-text : goal.returns-clause-text
returns-clause-text c =
    let text = c.args.text.now in
    let offset = c.min-offset.result in
    let from = c.loop-at.start in
    let within : offset ≤ length text = let same = ap length c.as_bytes-bytes.ensures.value in omega (arith, same) in
    let at : c.loop-at.at ≡ offset = omega arith in
    let low : from ≤ offset = let w = c.loop-at.invariant.within in omega (arith, w, at) in
    let start = rw (at, c.as_bytes-bytes.ensures.value) at c.loop-at.invariant.start in
    let ends = rw c.as_bytes-bytes.ensures.value at c.line_end-end.ensures in
    let line = line_text text offset from c.line_end-end.result within low start ends in
    let least : offset ≡ min c.args.offset (length text) = c.min-offset.ensures ∙ ap (λ (v : List ℕ). min c.args.offset (length v)) c.as_bytes-bytes.ensures.value in
    let taken = ap (λ n. take n text) least ∙ take_min c.args.offset text in
    let left = ap (λ n. drop n text) least ∙ drop_min c.args.offset text in
    c.without_return.ensures ∙ ap without_return (c.range.ensures.value ∙ line ∙ ap₂ (λ (a b : List ℕ). behind_feeds a ++ before_feed b) taken left)

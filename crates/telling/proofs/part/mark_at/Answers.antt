use Rattle.std.proofs.Common.{◌-◌, ◌^◌, ◌<◌, length, arith}
use Rattle.telling.proofs.Counting.{mark_line, mark_column}
use Rattle.telling.proofs.part.mark_at.Goals as goal

pub returns-clause-mark : goal.returns-clause-mark
returns-clause-mark c =
    let text = c.args.text.now in
    let bytes = c.as_bytes.result.now in
    let from = c.mark_before-from.result in
    let known = c.mark_before-from.ensures.mark in
    let short : length text < 2 ^ 64 - 1 = omega arith in
    record {
      within = c.requires.within;
      line = mark_line text bytes from.offset c.args.offset from.line c.line_behind.result (2 ^ 64 - 1) c.as_bytes.ensures.value c.mark_before-from.ensures.before c.requires.within short known.line c.line_behind.ensures;
      column = mark_column text bytes from.offset c.args.offset from.column c.column_behind.result (2 ^ 64 - 1) c.as_bytes.ensures.value c.mark_before-from.ensures.before c.requires.within short known.column c.column_behind.ensures;
    }
